use Rattle.std.proofs.Common.{sym, ◌∙◌, rules}
use Rattle.ipc_kernel.proofs.KernelLemmas.{settled_change, completed_change}
use Rattle.ipc_kernel.proofs.kernel.Kernel.change.Goals as goal

pub invariant_of-self-else-not-keeps_references : goal.invariant_of-self-else-not-keeps_references
invariant_of-self-else-not-keeps_references c = search (rules, settled_change)

pub returns-else-not-keeps_references-clause-ok : goal.returns-else-not-keeps_references-clause-ok
returns-else-not-keeps_references-clause-ok c = λ r.
    completed_change c.args.self.now (record { places = c.self.inside.places; processes = c.self.inside.processes }) (record { places = c.apply.new.places; processes = c.apply.new.processes }) c.args.pid c.args.change r
    c.self.view_is c.self.invariant c.requires.possible (sym c.keeps_references.ensures.kept ∙ c.if-not-keeps_references.false) c.in_ok-apply.ensures.ok
