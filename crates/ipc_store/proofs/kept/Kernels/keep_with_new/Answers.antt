use Rattle.std.proofs.Common.{◌≡◌, Some, map, slice_get, subst, sym, arith}
use Rattle.ipc_store.proofs.KeptLemmas.{rows_grow, adds_grows, kept_grows}
use Rattle.ipc_store.proofs.ArrangedRows.{kernel_with_new, rows_with_new}
use Rattle.ipc_store.proofs.kept.Kernels.keep_with_new.Goals as goal
use Rattle.std.proofs.lemmas.Grind.{common_steps}

pub invariant_of-self : goal.invariant_of-self
invariant_of-self c = rows_grow c.self.inside.objects c.self.inside.objects c.self.inside.tables c.keep_changed.new.self c.self.inside.rows (λ i x e. e) c.keep_changed.ensures.grows c.self.invariant

pub invariant_of-self-in_default-3 : goal.invariant_of-self-in_default-3
invariant_of-self-in_default-3 c = rows_grow c.self.inside.objects c.self.inside.objects c.self.inside.tables c.keep_changed.new.self c.self.inside.rows (λ i x e. e) c.keep_changed.ensures.grows c.self.invariant

pub returns-in_default-3-clause-grows : goal.returns-in_default-3-clause-grows
returns-in_default-3-clause-grows c = grind (arith, common_steps, kept_grows)

pub invariant_of-self-in_err-number : goal.invariant_of-self-in_err-number
invariant_of-self-in_err-number c = rw c.in_err-number.ensures.err
    (rows_grow c.self.inside.objects c.self.inside.objects c.self.inside.tables c.keep_changed.new.self c.self.inside.rows (λ i x e. e) c.keep_changed.ensures.grows c.self.invariant)

pub invariant_of-self-2 : goal.invariant_of-self-2
invariant_of-self-2 c =
    let kept = rw c.in-Some-3.is at c.in_ok-tables.ensures.renamed in
    rows_with_new c.self.inside.objects c.self.inside.tables c.keep_changed.new.self c.self.inside.rows c.keep.new.self c.in-Some.objects.now c.in-Some.processes.now c.as_slice.result.now c.as_slice-2.result.now
    c.args.kernel c.args.place c.args.object c.arrangement-arrangement.result.renaming c.in-Some-get.field-0.now kept.0
    c.keep_changed.ensures.grows c.self.invariant c.in-Some.ensures.row (sym c.in-Some-get.ensures.part) c.arrangement-arrangement.ensures.permutation
    (rw c.as_slice.ensures.value (rw c.in-Some-2.is at c.in_ok-moved.ensures.moved))
    (subst (λ v. map (slice_get c.keep_changed.new.self) v ≡ map Some kept.0) (sym c.as_slice-2.ensures.value) kept.1) c.in_ok-number.ensures.adds

pub returns-clause-grows : goal.returns-clause-grows
returns-clause-grows c = rw (← c.self.view_is) (
    kept_grows c.self.inside.objects c.self.inside.objects c.self.inside.tables c.keep_changed.new.self c.self.inside.rows c.keep.new.self (λ i x e. e) c.keep_changed.ensures.grows
    (adds_grows c.self.inside.rows c.keep.new.self _ c.in_ok-number.ensures.adds) c.self.invariant)

pub returns-clause-alike : goal.returns-clause-alike
returns-clause-alike c =
    let kept = rw c.in-Some-3.is at c.in_ok-tables.ensures.renamed in
    λ k o t at_kernel at_object at_tables settled.
    kernel_with_new c.self.inside.objects c.self.inside.tables c.keep_changed.new.self c.self.inside.rows c.keep.new.self c.in-Some.objects.now c.in-Some.processes.now c.as_slice.result.now c.as_slice-2.result.now
    c.args.kernel c.in_ok-number.number c.args.place c.args.object c.args.pid c.args.tables c.arrangement-arrangement.result.renaming o t k kept.0
    c.in-Some.ensures.row (rw (← c.self.view_is) at at_kernel) (rw (← c.self.view_is) at at_object) (rw (← c.self.view_is) at at_tables) c.arrangement-arrangement.ensures.permutation
    (rw c.as_slice.ensures.value (rw c.in-Some-2.is at c.in_ok-moved.ensures.moved))
    (subst (λ v. map (slice_get c.keep_changed.new.self) v ≡ map Some kept.0) (sym c.as_slice-2.ensures.value) kept.1) kept.2
    c.in_ok-number.ensures.kept settled
