use Rattle.std.proofs.Common.{inl, refl}
use Rattle.lab_search.proofs.Growths.{grows_same, kept_same, later_by, still_known}
use Rattle.lab_search.proofs.StepsOfRows.{leads_after, row_after}
use Rattle.lab_search.proofs.store.Store.keep_after.Goals as goal

pub returns-in-Some-clause-row : goal.returns-in-Some-clause-row
returns-in-Some-clause-row c =
    let t = c.args.self.now in
    leads_after t t c.args.change c.in-Some.to c.requires.store (grows_same t) c.requires.step c.in-Some.ensures.found

pub returns-then-not-pushed-clause-later : goal.returns-then-not-pushed-clause-later
returns-then-not-pushed-clause-later c =
    let t = c.args.self.now in
    later_by t _ c.requires.store (kept_same t.kernels) (inl refl) (inl (c.in_ok-pushed.ensures.same c.if-not-pushed.true)) (inl refl) (still_known t c.requires.store)

pub returns : goal.returns
returns c =
    let t = c.args.self.now in
    let h = row_after t _ c.args.change c.len-number.result c.requires.store c.requires.step (c.in_ok-pushed.ensures.pushed c.if-not-pushed.false) c.len-number.ensures.count
    (λ rows. later_by t _ c.requires.store (kept_same t.kernels) (inl refl) rows (inl refl) (still_known t c.requires.store)) in
    record { later = h.0; row = h.1 }
