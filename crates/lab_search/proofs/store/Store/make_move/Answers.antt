use Rattle.std.proofs.Common.{inl, refl}
use Rattle.lab_search.proofs.Growths.{kept_same, later_by, later_more, move_added}
use Rattle.lab_search.proofs.store.Store.make_move.Goals as goal

pub returns-in-Some-clause-later : goal.returns-in-Some-clause-later
returns-in-Some-clause-later c =
    let t = c.make_footprint_effect.new.self in
    let s = c.in_ok-next.ensures.later.store in
    let move = rw c.in-Some.is at c.in_ok-next.ensures.next in
    later_more c.args.self.now t _ c.in_ok-next.ensures.later
    (later_by t _ s (kept_same t.kernels) (inl refl) (inl refl) (inl refl) (move_added t c.keep.new.self c.args.mover c.in-Some.next s move c.in_ok-keep.ensures.footprints c.in_ok-keep.ensures.known))

pub returns-clause-later : goal.returns-clause-later
returns-clause-later c =
    let t = c.make_next.new.self in
    let s = c.in_ok-next-2.ensures.later.store in
    later_more c.args.self.now t _ (later_more c.args.self.now c.make_footprint_effect.new.self t c.in_ok-next.ensures.later c.in_ok-next-2.ensures.later)
    (later_by t _ s (kept_same t.kernels) (inl refl) (inl refl) (inl refl) (move_added t c.keep-2.new.self c.args.mover c.in_ok-next-2.next s c.in_ok-next-2.ensures.next c.in_ok-keep-2.ensures.footprints c.in_ok-keep-2.ensures.known))
