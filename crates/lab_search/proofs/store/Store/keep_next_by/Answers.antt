use Rattle.std.proofs.Common.{inl, refl}
use Rattle.lab_search.proofs.Growths.{later_by, still_known}
use Rattle.lab_search.proofs.FootprintLemmas.{next_by_changed}
use Rattle.lab_search.proofs.store.Store.keep_next_by.Goals as goal

pub returns-in_default-clause-later : goal.returns-in_default-clause-later
returns-in_default-clause-later c = later_by c.args.self.now _ c.requires.store c.in_ok-kernel-in-To.ensures.grows (inl refl) (inl refl) (inl refl) (still_known c.args.self.now c.requires.store)

pub returns-in-Some : goal.returns-in-Some
returns-in-Some c =
    let t = c.args.self.now in
    let m = c.args.mover in
    let grows = c.in_ok-kernel-in-To.ensures.grows in
    let later = later_by t _ c.requires.store grows (inl refl) (inl refl) (inl refl) (still_known t c.requires.store) in
    record {
      later = later;
      next = rw c.in-To.is
          (next_by_changed t _ m c.args.place c.in-Some.kernel c.in-To.tables c.in-To.object c.in-To.state c.in-To.taken c.in-To.errors later.grows (rw c.in-Some.is at c.in_ok-kernel-in-To.ensures.alike));
    }
