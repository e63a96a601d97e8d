-- The first end that isn't as a word requires.
use Rattle.std.specs.Prelude.{ℕ, Option, Some, None, List, All}
use Rattle.lab_worlds.specs.declared.ends.End.{End}
use Rattle.lab_questions.specs.declared.asked.Waiter.{Waiter}
use Rattle.lab_questions.specs.declared.asked.Word.{Word}
use Rattle.lab_questions.specs.Judgments.{IsMet, IsFault}

-- there is no such end, or this one
abbrev pub IsFaultIn : Word → List Waiter → List End → Option ℕ → Type 0
IsFaultIn word waiters ends None = All (IsMet word waiters ends) ends
IsFaultIn word waiters ends (Some i) = IsFault word waiters ends i
