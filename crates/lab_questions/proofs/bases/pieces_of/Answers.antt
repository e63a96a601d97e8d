use Rattle.std.proofs.Common.{◌≡◌, rules, tests, map, ap, ◌∙◌, codes}
use Rattle.std.specs.List.{slice_split}
use Rattle.std.proofs.lemmas.Iterator.Consumers.{map_from_collect}
use Rattle.std.proofs.lemmas.Iterator.Splits.{YieldsList-from_slice_split}
use Rattle.lab_conditions.specs.Written.{is_word}
use Rattle.lab_conditions.proofs.WordLemmas.{split-map, if_ok, map-twice}
use Rattle.lab_questions.proofs.bases.pieces_of.Goals as goal

pub returns : goal.returns
returns c =
    let words = c.args.words.now in
    let pieces = map_from_collect _ c.collect.ensures.ran
    (YieldsList-from_slice_split _ (λ w. is_word (codes "and") w.now) words c.split.ensures.rest c.split.ensures.done c.split.ensures.closure (λ x r q k. search (rules, tests))) in
    record {
      pieces = if_ok
          (λ found. map (λ piece. piece.now) found.items ≡ slice_split (λ w. is_word (codes "and") w.now) words)
          (λ found. map (λ piece. map (λ word. word.now) piece.now) found.items ≡ slice_split (is_word (codes "and")) (map (λ word. word.now) words))
          c.collect.result
          (λ found same. map-twice (map (λ word. word.now)) (λ piece. piece.now) found.items ∙ ap (map (map (λ word. word.now))) same ∙ split-map (λ word. word.now) (is_word (codes "and")) words)
          pieces;
    }
