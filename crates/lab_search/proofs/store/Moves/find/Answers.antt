use Rattle.std.proofs.Common.{refl, ◌-◌, subst}
use Rattle.lab_search.specs.declared.store.Move.{Move}
use Rattle.lab_search.specs.Stored.{IsMove}
use Rattle.lab_worlds.proofs.Pushes.{all_at, got}
use Rattle.lab_search.proofs.store.Moves.find.Goals as goal

pub returns-then-is_same : goal.returns-then-is_same
returns-then-is_same c = record {
  known = λ t known.
      let made = c.in_ok-made.made.now in
      let found = c.in_ok-made.ensures.lookup.3 in
      let at = got c.deref.result.now c.args.self.now.made.items (c.loop-number.number - 1) made c.deref.ensures.value found.0 (found.1 made) in
      subst (λ x. IsMove t x made.next) (c.if-is_same.ensures.same refl) (all_at (λ (m : Move). IsMove t m.mover m.next) c.args.self.now.made.items _ made known at);
}
