use Rattle.std.proofs.Common.{refl}
use Rattle.std.proofs.lemmas.Option.{slice_get-get_or}
use Rattle.ipc_store.specs.Uses.{uses_but}
use Rattle.lab_search.proofs.IndependentCalls.{independent_at, at_same}
use Rattle.lab_search.proofs.store.Store.first_independent.Goals as goal

pub returns-then-is_independent-clause-independent : goal.returns-then-is_independent-clause-independent
returns-then-is_independent-clause-independent c w here named =
    let states = c.in_ok-kernel.states.now in
    independent_at (uses_but c.args.ended.now c.args.uses.now) c.args.self.now w c.args.at c.in-Ok.pid c.in_ok-kernel.kernel _
    (record { kernel = c.in_ok-kernel.kernel; states = states }, c.loop-pid.invariant, refl, at_same states c.loop-pid.pid c.in-Ok.pid _ c.in-Ok.ensures.value (slice_get-get_or states c.loop-pid.pid _ c.loop-pid-test.true))
    (λ s exactly there at. c.is_independent.ensures.yes c.if-is_independent.true w s exactly there at) here named
