use Rattle.std.proofs.Common.{◌≡◌, ◌++◌, All, length, map}
use Rattle.std.specs.Vec.Iter.{into_iter_items, into_iter_len}
use Rattle.lab_sched.specs.Worlds.{WorldState}
use Rattle.lab_questions.specs.declared.asked.Question.TheVariants.{Never}
use Rattle.lab_questions.specs.Private.Founds.{AreShown, IsConditionAnswer}
use Rattle.lab_questions.proofs.answers.condition_answers.Given as goal

-- the conditions so far are answered, and what is left is shown
abbrev pub invariant-loop-condition : goal.invariant-loop-condition
invariant-loop-condition l =
    (map (λ a. a.question) l.answers.items ++ map Never (into_iter_items l.condition-iterator) ≡ map Never (into_iter_items l.initial.condition-iterator))
    × (into_iter_len l.condition-iterator ≡ length (into_iter_items l.condition-iterator))
    × (into_iter_len l.reached ≡ length (into_iter_items l.reached))
    × ((start : WorldState) → AreShown start l.complete (into_iter_items l.initial.condition-iterator) (into_iter_items l.initial.reached)
    → AreShown start l.complete (into_iter_items l.condition-iterator) (into_iter_items l.reached) × All (IsConditionAnswer start l.complete) l.answers.items)
