use Rattle.std.proofs.Common.{inl, refl, arith}
use Rattle.lab_states.specs.Rows.{row_of}
use Rattle.lab_search.proofs.Growths.{HasWorld, grown_if, kept_same, later_by, row_pushed, still_known}
use Rattle.lab_search.proofs.store.Store.keep_first_row.Goals as goal

pub returns : goal.returns
returns c =
    let t = c.args.self.now in
    let row = row_of c.args.row.now in
    let told = c.in_ok-pushed.ensures in
    let rows = grown_if (HasWorld t) c.in_ok-pushed.pushed t.rows _ row c.requires.row told.pushed told.same in
    let later = later_by t _ c.requires.store (kept_same t.kernels) (inl refl) rows (inl refl) (still_known t c.requires.store) in
    record { later = later; kept = λ is w h. row_pushed t _ row w 0 later.grows (told.pushed is) (omega arith) h }
