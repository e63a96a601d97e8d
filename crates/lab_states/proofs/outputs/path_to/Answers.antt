use Rattle.std.proofs.Common.{◌≡◌, ◌-◌, ◌∙◌, ◌∷◌, ◌++◌, [], ap, arith, get_or, map, refl, sym}
use Rattle.std.proofs.lemmas.List.{map-append}
use Rattle.lab_states.specs.Private.Outputs.{joined, outputs_of}
use Rattle.lab_worlds.proofs.Pushes.{got}
use Rattle.lab_states.proofs.PieceLemmas.{path_more, path_end, path_past}
use Rattle.lab_states.proofs.outputs.path_to.Goals as goal

pub returns-in_default : goal.returns-in_default
returns-in_default c =
    let ps = c.args.pieces.now in
    let path = joined (map (λ p. p.now) c.loop-at.path.items) in
    record { path = sym (ap (λ bs. bs ++ path) (path_past ps c.loop-at.at (omega (arith, c.in_default.ensures.lookup, c.loop-at-test.true)))) ∙ c.loop-at.invariant }

pub loop-at-smaller : goal.loop-at-smaller
loop-at-smaller c =
    let ps = c.args.pieces.now in
    let there = c.in-Some.ensures.lookup in
    let before = c.requires.chained (c.loop-at.at - 1) c.in-Some.piece.now (got ps ps (c.loop-at.at - 1) c.in-Some.piece.now refl there.3.0 there.1) in
    omega (arith, before, c.loop-at-test.true)

pub loop-at-preserved : goal.loop-at-preserved
loop-at-preserved c =
    let ps = c.args.pieces.now in
    let there = c.in-Some.ensures.lookup in
    path_more ps c.loop-at.at (c.loop-at.at - 1) (map (λ p. p.now) c.loop-at.path.items) (map (λ p. p.now) c.push.new.self.items) c.in-Some.piece.now (get_or (outputs_of ps) c.args.number []) c.requires.chained
    (got ps ps (c.loop-at.at - 1) c.in-Some.piece.now refl there.3.0 there.1) (omega (arith, c.loop-at-test.true)) c.loop-at.invariant
    (ap (map (λ p. p.now)) c.in_ok-push.ensures.items ∙ map-append (λ p. p.now) c.loop-at.path.items (c.in-Some.piece ∷ []))

pub returns : goal.returns
returns c =
    let ps = c.args.pieces.now in
    let path = joined (map (λ p. p.now) c.loop-at.path.items) in
    let done : c.loop-at.at ≡ 0 = omega (arith, c.loop-at-test.false) in
    record { path = sym (ap (λ n. get_or (outputs_of ps) n [] ++ path) done ∙ ap (λ bs. bs ++ path) (path_end ps)) ∙ c.loop-at.invariant }
