use Rattle.std.proofs.Common.{rules, tests, ap, ◌∙◌}
use Rattle.std.proofs.lemmas.Iterator.Consumers.{map_from_collect, YieldsList-from_filter}
use Rattle.std.proofs.lemmas.Iterator.Splits.{YieldsList-from_slice_split}
use Rattle.std.specs.Slice.Iter as slice
use Rattle.lc3_word.specs.Blanks.{is_among, is_word, words_between}
use Rattle.lc3_word.proofs.blanks.words_between.Goals as goal

-- the pieces between blanks that are not empty
pub returns : goal.returns
unfolding words_between
returns c = record {
  words = map_from_collect _ c.collect.ensures.ran
      (YieldsList-from_filter _ is_word
      (YieldsList-from_slice_split _ (is_among c.args.blanks.now) c.args.text.now (rw c.filter.ensures.source c.split.ensures.rest)
      (rw c.filter.ensures.source c.split.ensures.done) (ap slice.split_callee c.filter.ensures.source ∙ c.split.ensures.closure) (λ x r q k. search (rules, tests)))
      c.filter.ensures.closure (λ x r q k. search (rules, tests)));
}
