use Rattle.std.proofs.Common.{◌≡◌, rules, tests, map, ap, ◌∙◌, bytes_eq}
use Rattle.std.specs.List.{slice_split}
use Rattle.std.proofs.lemmas.Iterator.Consumers.{map_from_collect}
use Rattle.std.proofs.lemmas.Iterator.Splits.{YieldsList-from_slice_split}
use Rattle.lab_questions.specs.CallWords.{pieces}
use Rattle.lab_questions.proofs.CallLemmas.{split-map, if_ok, map-twice}
use Rattle.lab_questions.proofs.calling.pieces.Goals as goal

pub returns : goal.returns
returns c =
    let words = c.args.words.now in
    let between = c.args.between.now in
    let found = map_from_collect _ c.collect.ensures.ran
    (YieldsList-from_slice_split _ (λ w. bytes_eq between w.now) words c.split.ensures.rest c.split.ensures.done c.split.ensures.closure (λ x r q k. search (rules, tests))) in
    record {
      pieces = if_ok
          (λ found. map (λ piece. piece.now) found.items ≡ slice_split (λ w. bytes_eq between w.now) words)
          (λ found. map (λ piece. map (λ word. word.now) piece.now) found.items ≡ pieces between (map (λ word. word.now) words))
          c.collect.result
          (λ found same. map-twice (map (λ word. word.now)) (λ piece. piece.now) found.items ∙ ap (map (map (λ word. word.now))) same ∙ split-map (λ word. word.now) (bytes_eq between) words)
          found;
    }
