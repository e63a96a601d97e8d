use Rattle.std.proofs.Common.{◌++◌, ◌∙◌, ap, flat_map, map, sym, take, append-nil}
use Rattle.std.specs.List.{enumerate_from}
use Rattle.lab_questions.specs.Bases.{bases_in}
use Rattle.lab_questions.proofs.BasisLemmas.{typed_by, typed_next, typed_all}
use Rattle.lab_questions.proofs.bases.push_typed.Goals as goal

pub loop-number-init : goal.loop-number-init
loop-number-init c = sym (append-nil c.args.bases.now.items)

pub loop-number-preserved : goal.loop-number-preserved
loop-number-preserved c =
    let pieces = map (λ piece. map (λ word. word.now) piece.now) c.args.pieces.now in
    let parts = c.args.parts.now in
    let n = c.loop-number.number in
    let part = c.index-parts-number.result in
    let front = c.args.bases.now.items in
    c.in_ok-push_basis.ensures.bases
    ∙ ap (λ l. l ++ bases_in c.place_at-word.result.now part) c.loop-number.invariant
    ∙ ap (λ w. (front ++ flat_map (typed_by pieces) (take n (enumerate_from 0 parts))) ++ bases_in w part) c.place_at-word.ensures.place
    ∙ typed_next pieces parts front n part c.loop-number-test.true c.index-parts-number.is

pub returns : goal.returns
returns c =
    let pieces = map (λ piece. map (λ word. word.now) piece.now) c.args.pieces.now in
    record {
      bases = c.loop-number.invariant ∙ ap (λ l. c.args.bases.now.items ++ l) (typed_all pieces c.args.parts.now c.loop-number.number c.loop-number-test.false);
    }
