-- What is found of one question after the other.
use Rattle.std.specs.Prelude.{◌≡◌, Bool, false, Option, Some, None, List, [], ◌∷◌, IsTrue}
use Rattle.lab_sched.specs.declared.schedule.Block.{Block}
use Rattle.lab_sched.specs.Worlds.{WorldState}
use Rattle.lab_conditions.specs.declared.never.Never.{Never as Condition}
use Rattle.lab_worlds.specs.declared.exploration.Exploration.{Exploration}
use Rattle.lab_worlds.specs.Ends.{AreEnds, HaveAllEnds}
use Rattle.lab_worlds.specs.Reached.{Violates, IsKept, ViolatesIfSome, KeptIfNone}
use Rattle.lab_ways.specs.Ways.{IsEveryWay, IsWayWithout}
use Rattle.lab_ways.specs.declared.wanted.Wanted.{Wanted}
use Rattle.lab_questions.specs.declared.answers.Answer.{Answer}
use Rattle.lab_questions.specs.declared.answers.Found.{Found}
use Rattle.lab_questions.specs.declared.answers.Found.TheVariants.{Holds, Unknown, FailsAt, Fails}
use Rattle.lab_questions.specs.declared.asked.Question.{Question}
use Rattle.lab_questions.specs.declared.asked.Question.TheVariants.{Require, Never, Calls}

-- these are ends of the programs that begin so, and all if everything was visited
pub record AreEndsOf (start : WorldState) (e : Exploration) : Type 0 where
  pub sound : AreEnds start e.ends.items
  pub all : IsTrue e.complete → HaveAllEnds start e.ends.items

-- of what must never be so, as far as there is something found of it: a schedule leads to it; if everything was visited and there is
-- none, it never is so
abbrev pub AreShown : WorldState → Bool → List Condition → List (Option (List Block)) → Type 0
AreShown start complete [] shown = Unit {0}
AreShown start complete (n ∷ ns) [] = Unit {0}
AreShown start complete (n ∷ ns) (s ∷ shown) =
    (ViolatesIfSome start n s × (IsTrue complete → KeptIfNone start n s)) × AreShown start complete ns shown

-- what is found of a condition, by what a search shows of it, if it shows something
abbrev pub IsConditionFound : Option (Option (List Block)) → Bool → Found → Type 0
IsConditionFound shown complete Holds = (shown ≡ Some None) × IsTrue complete
IsConditionFound shown complete Unknown = complete ≡ false
IsConditionFound shown complete (FailsAt i) = ⊥
IsConditionFound shown complete (Fails s) = shown ≡ Some (Some s)

-- the same of an answer, whatever is found of ends
abbrev pub IsConditionOf : WorldState → Bool → Question → Found → Type 0
IsConditionOf start complete (Require word) found = ⊥
IsConditionOf start complete (Calls word) found = ⊥
IsConditionOf start complete (Never never) Holds = IsKept start never
IsConditionOf start complete (Never never) Unknown = complete ≡ false
IsConditionOf start complete (Never never) (FailsAt i) = ⊥
IsConditionOf start complete (Never never) (Fails s) = Violates start never s

abbrev pub IsConditionAnswer : WorldState → Bool → Answer → Type 0
IsConditionAnswer start complete a = IsConditionOf start complete a.question a.found

-- what is found of what is asked of calls is so
abbrev pub IsFoundOnWays : WorldState → Wanted → Found → Type 0
IsFoundOnWays start x Holds = IsEveryWay x start
IsFoundOnWays start x Unknown = Unit {0}
IsFoundOnWays start x (FailsAt i) = ⊥
IsFoundOnWays start x (Fails s) = IsWayWithout x start s

-- the same of an answer, whatever is found of ends
abbrev pub IsCallOf : WorldState → Question → Found → Type 0
IsCallOf start (Require word) found = ⊥
IsCallOf start (Never never) found = ⊥
IsCallOf start (Calls word) found = IsFoundOnWays start word.wanted found

abbrev pub IsCallAnswer : WorldState → Answer → Type 0
IsCallAnswer start a = IsCallOf start a.question a.found
