-- What a text says of a search.
use Rattle.std.specs.Prelude.{ℕ, ◌≡◌, List, None, IsTrue}
use Rattle.std.specs.List.Sorted.{IsNonDecreasingBy}
use Rattle.lab_sched.specs.Worlds.{WorldState}
use Rattle.lab_worlds.specs.declared.exploration.Exploration.{Exploration}
use Rattle.lab_worlds.specs.Ends.{AreEnds, HaveAllEnds, HaveFewestCalls, NoneStuck}
use Rattle.lab_questions.specs.declared.asked.Show.{Show}
use Rattle.lab_questions.specs.Claims.{SaysComplete, SaysEndless, SaysStuck, TellsEveryEnd}

-- what it says, or doesn't say, is so of what was found
pub record Says (show : Show) (found : Exploration) (text : List ℕ) : Type 0 where
  pub complete : SaysComplete text → IsTrue found.complete
  pub bounded : (SaysEndless text → ⊥) → found.lasso ≡ None
  pub free : (start : WorldState) → AreEnds start found.ends.items → (SaysStuck text → ⊥) → NoneStuck found.ends.items
  pub every : (start : WorldState) → AreEnds start found.ends.items → IsNonDecreasingBy (λ e. e.calls) found.ends.items
      → HaveAllEnds start found.ends.items → HaveFewestCalls start found.ends.items → TellsEveryEnd show start text
