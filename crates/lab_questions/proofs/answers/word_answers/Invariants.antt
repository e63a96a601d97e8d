use Rattle.std.proofs.Common.{◌≡◌, ◌++◌, All, length, map}
use Rattle.std.specs.Vec.Iter.{into_iter_items, into_iter_len}
use Rattle.lab_sched.specs.Worlds.{WorldState}
use Rattle.lab_questions.specs.declared.asked.Question.TheVariants.{Require}
use Rattle.lab_questions.specs.Answered.{IsAnswer}
use Rattle.lab_questions.specs.Private.Founds.{AreEndsOf}
use Rattle.lab_questions.proofs.answers.word_answers.Given as goal

-- the words so far are answered
abbrev pub invariant-loop-word : goal.invariant-loop-word
invariant-loop-word l =
    (map (λ a. a.question) l.answers.items ++ map Require (into_iter_items l.word-iterator) ≡ map Require (into_iter_items l.initial.word-iterator))
    × (into_iter_len l.word-iterator ≡ length (into_iter_items l.word-iterator))
    × ((start : WorldState) → AreEndsOf start l.found → All (IsAnswer start l.waiters l.found) l.answers.items)
