use Rattle.std.proofs.Common.{◌-◌, arith, rules}
use Rattle.lab_worlds.proofs.Pushes.{got}
use Rattle.lab_states.proofs.PieceLemmas.{ends_at}
use Rattle.lab_states.proofs.outputs.Outputs.find.Goals as goal

pub returns-then-eq : goal.returns-then-eq
returns-then-eq c = record {
  found =
      let number = c.loop-number.number in
      let there = c.in-Some.ensures.lookup in
      ends_at c.self.inside.pieces.items c.args.self.now number (number - 1) c.in-Some.kept.now c.args.piece.now c.self.invariant c.self.view_is
      (got c.deref.result.now c.self.inside.pieces.items (number - 1) c.in-Some.kept.now c.deref.ensures.value there.3.0 there.1) (search rules) (omega (arith, c.loop-number-test.true));
}
