use Rattle.std.proofs.Common.{IsSomeAnd, sym, subst}
use Rattle.ipc_kernel.specs.Places.{place_at, queue_in}
use Rattle.ipc_kernel.specs.Private.Messages.{HasMessage}
use Rattle.ipc_kernel.specs.Kernel.{KernelState}
use Rattle.ipc_kernel.proofs.AnswerLemmas.{settled_received}
use Rattle.ipc_kernel.proofs.kernel.Kernel.receive.Goals as goal

pub invariant_of-self : goal.invariant_of-self
invariant_of-self c =
    settled_received (record { places = c.self.inside.places; processes = c.self.inside.processes }) c.args.place c.receive-prio.new.self c.self.invariant
    (subst (λ (k : KernelState). IsSomeAnd (queue_in (place_at k.places c.args.place)) HasMessage) (sym c.self.view_is) c.requires.message) c.receive-prio.ensures.rest
