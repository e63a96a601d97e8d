use Rattle.std.proofs.Common.{inl, refl}
use Rattle.lab_search.proofs.Growths.{kept_same, later_by, later_more}
use Rattle.lab_search.proofs.store.Store.effect_of.Goals as goal

pub returns-clause-later : goal.returns-clause-later
returns-clause-later c =
    let t = c.make_effect.new.self in
    let s = c.in_ok-effect.ensures.later.store in
    later_more c.args.self.now t _ c.in_ok-effect.ensures.later
    (later_by t _ s (kept_same t.kernels) (inl refl) (inl refl) (inl refl) (s.known.moves, c.in_ok-keep.ensures.known t s.known.footprints c.in_ok-effect.ensures.footprint_effect))

pub returns-clause-footprint_effect : goal.returns-clause-footprint_effect
returns-clause-footprint_effect c = c.in_ok-effect.ensures.footprint_effect
