-- What an exploration tells.
use Rattle.std.specs.Prelude.{◌≡◌, Bool, false, List, None, IfSome, IsTrue}
use Rattle.std.specs.List.Sorted.{IsNonDecreasingBy}
use Rattle.lab_sched.specs.Worlds.{WorldState}
use Rattle.lab_conditions.specs.declared.never.Never.{Never}
use Rattle.lab_worlds.specs.declared.ends.End.{End}
use Rattle.lab_worlds.specs.declared.exploration.Exploration.{Exploration}
use Rattle.lab_worlds.specs.Ends.{AreEnds, HaveAllEnds, HaveFewestCalls, NoneStuck, NeverStuck}
use Rattle.lab_worlds.specs.Reached.{AreReached, AreKept}
use Rattle.lab_worlds.specs.Lassos.{IsLasso, CanBeRepeated, AreEndless, AreBounded}
use Rattle.lab_worlds.specs.Fairness.{IsFairLasso, AreFairlyEndless, AreFairlyBounded}

-- what was found from a start is all that the contract of an exploration says
pub record IsExplored (start : WorldState) (nevers : List Never) (fair : Bool) (found : Exploration) : Type 0 where
  pub sound : AreEnds start found.ends.items
  pub ordered : IsNonDecreasingBy (λ (e : End). e.calls) found.ends.items
  pub complete : IsTrue found.complete → HaveAllEnds start found.ends.items
  pub fewest : IsTrue found.complete → HaveFewestCalls start found.ends.items
  pub free : IsTrue found.complete → NoneStuck found.ends.items → NeverStuck start
  pub reached : AreReached start nevers found.reached.items
  pub unreached : IsTrue found.complete → AreKept start nevers found.reached.items
  pub lasso : IfSome found.lasso (λ r. IsLasso start r)
  pub repeats : IfSome found.lasso (λ r. CanBeRepeated start r)
  pub endless : IfSome found.lasso (λ r. AreEndless start)
  pub bounded : fair ≡ false → IsTrue found.complete → found.lasso ≡ None → AreBounded start
  pub fair_asked : found.fair ≡ fair
  pub fair_lasso : IsTrue fair → IfSome found.lasso (λ r. IsFairLasso start r)
  pub fairly_endless : IsTrue fair → IfSome found.lasso (λ r. AreFairlyEndless start)
  pub fairly_bounded : IsTrue fair → IsTrue found.complete → found.lasso ≡ None → AreFairlyBounded start
