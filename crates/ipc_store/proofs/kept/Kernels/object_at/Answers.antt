use Rattle.std.proofs.Common.{◌≡◌, Some, slice_get, arith, sym}
use Rattle.ipc_kernel.specs.declared.place.Place.TheVariants.{Empty}
use Rattle.ipc_store.proofs.KeptLemmas.{of_kernel, object_there, no_object, empty_there}
use Rattle.ipc_store.proofs.kept.Kernels.object_at.Goals as goal

pub returns-in-Some-clause-object : goal.returns-in-Some-clause-object
returns-in-Some-clause-object c = rw (← c.self.view_is) (of_kernel c.self.inside.objects c.self.inside.tables c.self.inside.rows c.args.kernel _ _ c.in_ok-objects.ensures.row
    (object_there c.self.inside.objects c.self.inside.tables c.in_ok-objects.objects.now c.in_ok-objects.field-0-1.now c.args.place c.in-Some.number
    (c.self.invariant c.args.kernel _ c.in_ok-objects.ensures.row) (sym c.in-Some.ensures.number)))

pub returns-clause-object : goal.returns-clause-object
returns-clause-object c = rw (← c.self.view_is) (of_kernel c.self.inside.objects c.self.inside.tables c.self.inside.rows c.args.kernel _ _ c.in_ok-objects.ensures.row
    (Empty, c.in_ok-number.ensures.empty, empty_there c.self.inside.objects c.in_ok-objects.objects.now c.args.place (sym c.in_default.ensures.number) (omega (arith, c.if-place-ge-OBJECT_PLACES.false))))

pub returns-then-place-ge-OBJECT_PLACES-clause-there : goal.returns-then-place-ge-OBJECT_PLACES-clause-there
returns-then-place-ge-OBJECT_PLACES-clause-there c = λ k o at_kernel at_place full.
    absurd (of_kernel c.self.inside.objects c.self.inside.tables c.self.inside.rows c.args.kernel _ (λ x. slice_get x.places c.args.place ≡ Some o → ⊥) c.in_ok-objects.ensures.row
    (λ at. no_object c.self.inside.objects c.in_ok-objects.objects.now c.args.place o (sym c.in_default.ensures.number) at full) k (rw (← c.self.view_is) at at_kernel) at_place)

pub returns-in_err-number-clause-there : goal.returns-in_err-number-clause-there
returns-in_err-number-clause-there c = λ k o at_kernel at_place full.
    absurd (of_kernel c.self.inside.objects c.self.inside.tables c.self.inside.rows c.args.kernel _ (λ x. slice_get x.places c.args.place ≡ Some o → ⊥) c.in_ok-objects.ensures.row
    (λ at. no_object c.self.inside.objects c.in_ok-objects.objects.now c.args.place o (sym c.in_default.ensures.number) at full) k (rw (← c.self.view_is) at at_kernel) at_place)
