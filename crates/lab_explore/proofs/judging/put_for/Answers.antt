use Rattle.std.proofs.Common.{refl, subst}
use Rattle.lab_search.specs.Stored.{IsExactly}
use Rattle.lab_explore.proofs.JudgedRows.{judges_exactly, judges_over_any}
use Rattle.lab_explore.proofs.judging.put_for.Goals as goal

pub returns-then-not-needs_kernel-clause-judges : goal.returns-then-not-needs_kernel-clause-judges
returns-then-not-needs_kernel-clause-judges c = judges_over_any c.args.store.now c.args.condition.now c.args.number c.args.last.now.kernel (c.if-not-needs_kernel.ensures.no refl)

pub returns-else-last-number-clause-judges : goal.returns-else-last-number-clause-judges
returns-else-last-number-clause-judges c =
    let kernel = c.args.last.now.kernel in
    judges_exactly c.args.store.now c.args.condition.now c.args.number kernel (subst (λ n. IsExactly c.args.store.now n kernel) c.if-last-number.false c.requires.last)

pub returns-in_ok-last-clause-judges : goal.returns-in_ok-last-clause-judges
returns-in_ok-last-clause-judges c =
    let whole = c.in_ok-last.field-0 in
    judges_exactly c.args.store.now c.args.condition.now c.args.number whole.kernel (subst (λ n. IsExactly c.args.store.now n whole.kernel) c.in_ok-last.ensures.number c.in_ok-last.ensures.exactly)
