use Rattle.std.proofs.Common.{rules, tests, lit<}
use Rattle.std.proofs.lemmas.Iterator.Consumers.{map_from_collect, YieldsList-from_filter}
use Rattle.std.proofs.lemmas.Iterator.Splits.{YieldsList-from_str_split}
use Rattle.lab_conditions.specs.Written.{has_byte}
use Rattle.lab_questions.proofs.bases.words_of.Goals as goal

-- the pieces between blanks that are not empty
pub returns : goal.returns
returns c = record {
  words = map_from_collect _ c.collect.ensures.ran
      (YieldsList-from_filter _ has_byte
      (YieldsList-from_str_split 32 c.args.text.now (lit< tt) (rw c.filter.ensures.source c.split.ensures.text)
      (rw c.filter.ensures.source c.split.ensures.has_more) (rw c.filter.ensures.source c.split.ensures.pattern))
      c.filter.ensures.closure (λ x r q k. search (rules, tests)));
}
