use Rattle.std.proofs.Common.{Some, ap, ◌∙◌}
use Rattle.ipc_kernel.specs.Kernel.{KernelState}
use Rattle.ipc_store.proofs.KeptLemmas.{rows_grow, adds_grows, rows_with, kept_grows, kernel_of_parts}
use Rattle.ipc_store.proofs.NumberLemmas.{numbers_there}
use Rattle.ipc_store.specs.Private.KeptRows.{row}
use Rattle.ipc_store.proofs.kept.Kernels.keep.Goals as goal

pub invariant_of-self : goal.invariant_of-self
invariant_of-self c = rows_grow c.self.inside.objects c.keep_all.new.self c.self.inside.tables c.self.inside.tables c.self.inside.rows c.keep_all.ensures.grows (λ i x e. e) c.self.invariant

pub invariant_of-self-in_err-tables : goal.invariant_of-self-in_err-tables
invariant_of-self-in_err-tables c =
    rows_grow c.self.inside.objects c.keep_all.new.self c.self.inside.tables c.keep_all-2.new.self c.self.inside.rows c.keep_all.ensures.grows c.keep_all-2.ensures.grows c.self.invariant

pub invariant_of-self-in_err-number : goal.invariant_of-self-in_err-number
invariant_of-self-in_err-number c = rw c.in_err-number.ensures.err
    (rows_grow c.self.inside.objects c.keep_all.new.self c.self.inside.tables c.keep_all-2.new.self c.self.inside.rows c.keep_all.ensures.grows c.keep_all-2.ensures.grows c.self.invariant)

pub invariant_of-self-2 : goal.invariant_of-self-2
invariant_of-self-2 c = rows_with c.keep_all.new.self c.keep_all-2.new.self c.self.inside.rows c.keep.new.self (row c.as_slice.result.now c.as_slice-2.result.now)
    (rows_grow c.self.inside.objects c.keep_all.new.self c.self.inside.tables c.keep_all-2.new.self c.self.inside.rows c.keep_all.ensures.grows c.keep_all-2.ensures.grows c.self.invariant)
    (record {
      of_objects = numbers_there c.keep_all.new.self c.as_slice.result.now c.objects.result.now (rw c.as_slice.ensures.value c.in_ok-objects.ensures.kept);
      of_tables = numbers_there c.keep_all-2.new.self c.as_slice-2.result.now c.tables.result.now (rw c.as_slice-2.ensures.value c.in_ok-tables.ensures.kept);
    }) c.in_ok-number.ensures.adds

pub returns-clause-grows : goal.returns-clause-grows
returns-clause-grows c =
    rw (← c.self.view_is) (kept_grows c.self.inside.objects c.keep_all.new.self c.self.inside.tables c.keep_all-2.new.self c.self.inside.rows c.keep.new.self
    c.keep_all.ensures.grows c.keep_all-2.ensures.grows (adds_grows c.self.inside.rows c.keep.new.self _ c.in_ok-number.ensures.adds) c.self.invariant)

pub returns-clause-kept : goal.returns-clause-kept
returns-clause-kept c =
    let kernel : _ → _ → KernelState = λ ps us. record { places = ps; processes = us } in
    kernel_of_parts c.keep_all.new.self c.keep_all-2.new.self c.keep.new.self c.in_ok-number.number c.as_slice.result.now c.as_slice-2.result.now c.objects.result.now c.tables.result.now
    c.in_ok-number.ensures.kept (rw c.as_slice.ensures.value c.in_ok-objects.ensures.kept) (rw c.as_slice-2.ensures.value c.in_ok-tables.ensures.kept)
    ∙ ap (λ ps. Some (kernel ps c.tables.result.now)) c.objects.ensures.objects ∙ ap (λ us. Some (kernel c.args.kernel.now.places us)) c.tables.ensures.tables
