use Rattle.std.proofs.Common.{sym, ap, ◌∙◌}
use Rattle.std.specs.List.{list_any}
use Rattle.lab_conditions.specs.Conditions.{part_needs_kernel}
use Rattle.lab_conditions.proofs.KernelFree.{condition_over_any}
use Rattle.lab_conditions.proofs.condition.Condition.needs_kernel.Goals as goal

pub returns-clause-no : goal.returns-clause-no
returns-clause-no c free = condition_over_any c.args.self.now (ap (list_any part_needs_kernel) (sym c.as_slice.ensures.value) ∙ sym c.need_kernel.ensures.value ∙ free)
