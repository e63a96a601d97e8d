use Rattle.std.proofs.Common.{◌≡◌, ◌++◌, All, length, map}
use Rattle.std.specs.Vec.Iter.{into_iter_items, into_iter_len}
use Rattle.lab_questions.specs.declared.asked.Question.TheVariants.{Calls}
use Rattle.lab_sched.specs.Worlds.{WorldState}
use Rattle.lab_questions.specs.Private.Founds.{IsCallAnswer}
use Rattle.lab_questions.proofs.answers.unknown_calls.Given as goal

-- what is asked of calls so far isn't known
abbrev pub invariant-loop-word : goal.invariant-loop-word
invariant-loop-word l =
    (map (λ a. a.question) l.answers.items ++ map Calls (into_iter_items l.word-iterator) ≡ map Calls (into_iter_items l.initial.word-iterator))
    × (into_iter_len l.word-iterator ≡ length (into_iter_items l.word-iterator))
    × ((start : WorldState) → All (IsCallAnswer start) l.answers.items)
