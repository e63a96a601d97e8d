use Rattle.std.proofs.Common.{◌≡◌, ◌++◌, All, length, map}
use Rattle.std.specs.Vec.Iter.{into_iter_items, into_iter_len}
use Rattle.lab_questions.specs.declared.asked.Question.TheVariants.{Calls}
use Rattle.lab_explore.specs.Visits.{start_of}
use Rattle.lab_questions.specs.Private.Founds.{IsCallAnswer}
use Rattle.lab_questions.proofs.asking.called_of.Given as goal

-- what is asked of calls so far is answered
abbrev pub invariant-loop-word : goal.invariant-loop-word
invariant-loop-word l =
    (map (λ a. a.question) l.answers.items ++ map Calls (into_iter_items l.word-iterator) ≡ map Calls (into_iter_items l.initial.word-iterator))
    × (into_iter_len l.word-iterator ≡ length (into_iter_items l.word-iterator))
    × (All (IsCallAnswer (start_of l.visited)) l.answers.items)
