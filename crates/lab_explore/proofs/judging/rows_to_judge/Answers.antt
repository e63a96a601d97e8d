use Rattle.std.proofs.Common.{ℕ, ◌≤◌, List, ◌++◌, ◌∷◌, [], below_more, subst, sym, arith}
use Rattle.std.specs.Prelude.{Contains}
use Rattle.std.proofs.lemmas.List.Elements.{Contains-push}
use Rattle.std.proofs.lemmas.List.Sorted.{Contains-permutation}
use Rattle.lab_worlds.proofs.FairLassos.{contained_more}
use Rattle.lab_explore.proofs.judging.rows_to_judge.Goals as goal

pub loop-at-preserved : goal.loop-at-preserved
loop-at-preserved c i from below =
    let rows = c.loop-at.rows.items in
    let at = c.loop-at.at in
    subst (λ (xs : List ℕ). Contains xs i) (sym c.in_ok-push.ensures.items)
    (below_more (λ i. c.args.start ≤ i → Contains (rows ++ at ∷ []) i) at (λ i within from. contained_more rows (at ∷ []) i (c.loop-at.invariant i from within)) (λ from. Contains-push rows at) i below from)

pub returns-then-not-needs_kernel : goal.returns-then-not-needs_kernel
returns-then-not-needs_kernel c = record { all = λ i from below. c.loop-at.invariant i from (omega (arith, from, below, c.loop-at-test.false)) }

pub returns : goal.returns
returns c = record {
  all = λ i from below.
      Contains-permutation c.loop-at.rows.items c.sort_by_key.new.self.items i c.in_ok-sort_by_key.ensures.permutation (c.loop-at.invariant i from (omega (arith, from, below, c.loop-at-test.false)));
}
