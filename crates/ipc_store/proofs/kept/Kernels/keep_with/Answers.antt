use Rattle.std.proofs.Common.{◌≡◌, Some, slice_get, sym, ◌∙◌}
use Rattle.ipc_store.proofs.KeptLemmas.{of_kernel, adds_grows, rows_changed, kernel_changed, kept_grows, no_object, no_tables}
use Rattle.ipc_store.proofs.kept.Kernels.keep_with.Goals as goal

pub invariant_of-self-2 : goal.invariant_of-self-2
invariant_of-self-2 c =
    rows_changed c.self.inside.objects c.self.inside.tables c.self.inside.rows c.keep.new.self c.in-Some-row.objects.now c.in-Some-row.processes.now c.as_slice.result.now c.as_slice-2.result.now
    c.args.kernel c.args.place c.args.object c.args.pid c.args.tables c.in-Some.field-0.now c.in-Some-get.field-0.now c.self.invariant c.in-Some-row.ensures.row
    (sym c.in-Some.ensures.part) (sym c.in-Some-get.ensures.part)
    (c.as_slice.ensures.value ∙ (rw c.in-Some-2.is at c.in_ok-objects.ensures.changed)) (c.as_slice-2.ensures.value ∙ (rw c.in-Some-3.is at c.in_ok-processes.ensures.changed))
    c.in_ok-number.ensures.adds

pub returns-clause-grows : goal.returns-clause-grows
returns-clause-grows c =
    rw (← c.self.view_is) (kept_grows c.self.inside.objects c.self.inside.objects c.self.inside.tables c.self.inside.tables c.self.inside.rows c.keep.new.self
    (λ i x e. e) (λ i x e. e) (adds_grows c.self.inside.rows c.keep.new.self _ c.in_ok-number.ensures.adds) c.self.invariant)

pub returns-clause-kept : goal.returns-clause-kept
returns-clause-kept c = λ k o t at_kernel at_object at_tables.
    kernel_changed c.self.inside.objects c.self.inside.tables c.self.inside.rows c.keep.new.self c.in-Some-row.objects.now c.in-Some-row.processes.now c.as_slice.result.now c.as_slice-2.result.now
    c.args.kernel c.in_ok-number.number c.args.place c.args.object c.args.pid c.args.tables o t k c.in-Some-row.ensures.row (rw (← c.self.view_is) at at_kernel)
    (rw c.in-Some-2.is at c.in_ok-objects.ensures.range) (rw (← c.self.view_is) at at_object) (rw (← c.self.view_is) at at_tables)
    (c.as_slice.ensures.value ∙ (rw c.in-Some-2.is at c.in_ok-objects.ensures.changed)) (c.as_slice-2.ensures.value ∙ (rw c.in-Some-3.is at c.in_ok-processes.ensures.changed))
    c.in_ok-number.ensures.kept

pub returns-in_default-2-clause-there : goal.returns-in_default-2-clause-there
returns-in_default-2-clause-there c = λ k o p t u at_kernel held full at_object at_tables.
    absurd (of_kernel c.self.inside.objects c.self.inside.tables c.self.inside.rows c.args.kernel _ (λ x. slice_get x.places c.args.place ≡ Some p → ⊥) c.in-Some-row.ensures.row
    (λ at. no_object c.self.inside.objects c.in-Some-row.objects.now c.args.place p (rw c.in_default-2.is at c.in_ok-objects.ensures.none) at full) k (rw (← c.self.view_is) at at_kernel) held.object)

pub returns-in_default-3-clause-there : goal.returns-in_default-3-clause-there
returns-in_default-3-clause-there c = λ k o p t u at_kernel held full at_object at_tables.
    absurd (of_kernel c.self.inside.objects c.self.inside.tables c.self.inside.rows c.args.kernel _ (λ x. slice_get x.processes c.args.pid ≡ Some u → ⊥) c.in-Some-row.ensures.row
    (no_tables c.self.inside.tables c.in-Some-row.processes.now c.args.pid u (rw c.in_default-3.is at c.in_ok-processes.ensures.none)) k (rw (← c.self.view_is) at at_kernel) held.tables)
