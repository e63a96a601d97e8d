-- What a search found of the programs of a laboratory.
use Rattle.std.specs.Prelude.{ℕ, ◌≡◌, Bool, false, None, List, IfSome, IsTrue}
use Rattle.std.specs.List.Sorted.{IsNonDecreasingBy}
use Rattle.lab_sched.specs.Worlds.{WorldState}
use Rattle.lab_worlds.specs.declared.exploration.Exploration.{Exploration}
use Rattle.lab_worlds.specs.Ends.{AreEnds, HaveAllEnds, HaveFewestCalls, NoneStuck, NeverStuck}
use Rattle.lab_worlds.specs.Lassos.{IsLasso, CanBeRepeated, AreBounded}
use Rattle.lab_worlds.specs.Fairness.{IsFairLasso, AreFairlyEndless, AreFairlyBounded}
use Rattle.lab_questions.specs.declared.asked.Show.{Show}
use Rattle.lab_questions.specs.Claims.{SaysComplete, SaysEndless, SaysStuck, TellsEveryEnd}

-- its ends are ends, those with fewer calls first; if it is complete, they are all, by the fewest calls, and no process waits for ever if
-- none of them is stuck
pub record HasEnds (start : WorldState) (e : Exploration) : Type 0 where
  pub sound : AreEnds start e.ends.items
  pub ordered : IsNonDecreasingBy (λ e. e.calls) e.ends.items
  pub all : IsTrue e.complete → HaveAllEnds start e.ends.items
  pub fewest : IsTrue e.complete → HaveFewestCalls start e.ends.items
  pub free : IsTrue e.complete → NoneStuck e.ends.items → NeverStuck start

-- its lasso is one, and a fair one if these alone are asked for; if it is complete and has none, nothing goes on for ever
pub record HasRound (start : WorldState) (e : Exploration) : Type 0 where
  pub lasso : IfSome e.lasso (λ r. IsLasso start r)
  pub repeats : IfSome e.lasso (λ r. CanBeRepeated start r)
  pub bounded : e.fair ≡ false → IsTrue e.complete → e.lasso ≡ None → AreBounded start
  pub fair_lasso : IsTrue e.fair → IfSome e.lasso (λ r. IsFairLasso start r)
  pub fairly_endless : IsTrue e.fair → IfSome e.lasso (λ r. AreFairlyEndless start)
  pub fairly_bounded : IsTrue e.fair → IsTrue e.complete → e.lasso ≡ None → AreFairlyBounded start

-- if its text says that it is complete, the text tells every end; no process waits for ever if it tells no such end; and no run goes on
-- for ever if it tells no round, unless fair ones alone are asked for
pub record IsTrueText (start : WorldState) (fair : Bool) (show : Show) (text : List ℕ) : Type 0 where
  pub all : SaysComplete text → TellsEveryEnd show start text
  pub free : SaysComplete text → (SaysStuck text → ⊥) → NeverStuck start
  pub bounded : fair ≡ false → SaysComplete text → (SaysEndless text → ⊥) → AreBounded start
