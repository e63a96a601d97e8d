use Rattle.std.proofs.lemmas.Option.{IfSome_then}
use Rattle.lab_search.proofs.Growths.{later_more}
use Rattle.lab_search.proofs.FootprintLemmas.{footprint_grows, move_by_footprint}
use Rattle.lab_search.proofs.store.Store.make_footprint_effect.Goals as goal

pub returns-clause-later : goal.returns-clause-later
returns-clause-later c = later_more c.args.self.now c.effect_of.new.self c.keep_next_by.new.self c.in_ok-effect.ensures.later c.in_ok-keep_next_by.ensures.later

pub returns-clause-next : goal.returns-clause-next
returns-clause-next c =
    let t = c.effect_of.new.self in
    let m = c.args.mover in
    let k = c.requires.kernel in
    let g = c.in_ok-effect.ensures.later.grows in
    let has = footprint_grows c.args.self.now t k.0 m.pid c.in-Some.footprint g (c.in-Some.ensures.operand k.0 k.1) in
    IfSome_then c.in_ok-keep_next_by.field-0 c.in_ok-keep_next_by.ensures.next (λ n h.
    move_by_footprint t c.keep_next_by.new.self m n c.in-Some.footprint c.in_ok-effect.effect k.0 c.in_ok-keep_next_by.ensures.later.grows
    (g.kernels.kernels m.kernel k.0 k.1) c.in-Some.ensures.state has c.in_ok-effect.ensures.footprint_effect h)
