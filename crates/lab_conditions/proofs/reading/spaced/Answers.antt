use Rattle.std.proofs.Common.{sym, ◌∙◌, rules}
use Rattle.lab_conditions.proofs.WordLemmas.{later, later-end, spaced-first, spaced-none}
use Rattle.lab_conditions.proofs.reading.spaced.Goals as goal

pub returns-in_default : goal.returns-in_default
returns-in_default c = record { text = c.new-text.ensures.bytes ∙ spaced-none c.args.words.now c.in_default.ensures.cases }

pub loop-word-init : goal.loop-word-init
loop-word-init c = search (rules, later, spaced-first)

pub returns : goal.returns
returns c = record { text = sym (later-end _ c.in-Some.rest.now c.loop-word.word-index c.loop-word-test.false) ∙ c.loop-word.invariant }
