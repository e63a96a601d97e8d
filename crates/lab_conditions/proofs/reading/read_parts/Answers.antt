use Rattle.std.proofs.Common.{◌<◌, ◌+◌, [], length, map, drop, get_or, ap, sym, ◌∙◌, rules}
use Rattle.std.proofs.lemmas.List.{get_or-map, length-map, drop_all, drop_more}
use Rattle.lab_conditions.specs.Written.{part_in, parts_in}
use Rattle.lab_conditions.proofs.PartLemmas.{with_front, front-start, front-more, front-none, front-end}
use Rattle.lab_conditions.proofs.reading.read_parts.Goals as goal

pub loop-piece-init : goal.loop-piece-init
loop-piece-init c = rw c.new-parts.ensures.items (front-start (parts_in (map (λ piece. map (λ word. word.now) piece.now) c.args.pieces.now)))

pub returns-in-None : goal.returns-in-None
returns-in-None c =
    let ps = map (λ piece. map (λ word. word.now) piece.now) c.args.pieces.now in
    let i = c.loop-piece.piece-index in
    let found = c.loop-piece.parts.items in
    let at = get_or-map (λ piece. map (λ word. word.now) piece.now) c.args.pieces.now i (record { ref_ptr = (0, 0); now = [] }) [] c.loop-piece-test.true in
    let within : i < length ps = rw length-map c.loop-piece-test.true in
    record {
      value = sym (c.loop-piece.invariant
          ∙ ap (λ rest. with_front found (parts_in rest)) (drop_more ps i [] within)
          ∙ front-none found (get_or ps i []) (drop (i + 1) ps) (sym c.in-None.is ∙ c.in_ok-part.ensures.value ∙ ap part_in (sym at)));
    }

pub loop-piece-preserved : goal.loop-piece-preserved
loop-piece-preserved c =
    let ps = map (λ piece. map (λ word. word.now) piece.now) c.args.pieces.now in
    let i = c.loop-piece.piece-index in
    let found = c.loop-piece.parts.items in
    let part = c.in-Some.part in
    let at = get_or-map (λ piece. map (λ word. word.now) piece.now) c.args.pieces.now i (record { ref_ptr = (0, 0); now = [] }) [] c.loop-piece-test.true in
    let within : i < length ps = rw length-map c.loop-piece-test.true in
    rw c.in_ok-push-in-Some.ensures.items (c.loop-piece.invariant
    ∙ ap (λ rest. with_front found (parts_in rest)) (drop_more ps i [] within)
    ∙ front-more found (get_or ps i []) (drop (i + 1) ps) part (sym c.in-Some.is ∙ c.in_ok-part.ensures.value ∙ ap part_in (sym at)))

pub returns : goal.returns
returns c = search (rules, length-map, with_front, drop_all, front-end)
