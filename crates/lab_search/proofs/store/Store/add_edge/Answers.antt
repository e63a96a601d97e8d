use Rattle.std.proofs.Common.{inl, refl}
use Rattle.lab_search.proofs.Growths.{kept_same, later_by, still_known}
use Rattle.lab_search.proofs.StepsOfRows.{edge_after}
use Rattle.lab_search.proofs.store.Store.add_edge.Goals as goal

pub returns : goal.returns
returns c =
    let t = c.args.self.now in
    let told = c.in_ok-pushed.ensures in
    let h = edge_after t _ c.args.at c.args.pid c.args.to c.in-Some.edge c.in_ok-pushed.pushed c.requires.leads c.in-Some.ensures.from c.in-Some.ensures.pid c.in-Some.ensures.to told.pushed told.same
    (λ edges. later_by t _ c.requires.store (kept_same t.kernels) (inl refl) (inl refl) edges (still_known t c.requires.store)) in
    record { later = h.0; edge = h.1 }
