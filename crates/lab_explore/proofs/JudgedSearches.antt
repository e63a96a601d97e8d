-- What is found on no row of a search, which is reduced or isn't, never is so.
use Rattle.std.proofs.Common.{◌≡◌, Bool, true, false, IsTrue, refl}
use Rattle.lab_conditions.specs.declared.condition.Condition.{Condition}
use Rattle.lab_conditions.specs.declared.never.Never.TheVariants as never
use Rattle.lab_conditions.specs.declared.never.Refusal.{Refusal}
use Rattle.lab_search.specs.Shown.{ShowsProcesses}
use Rattle.lab_worlds.specs.Reached.{NeverHolds, NeverBreaks}
use Rattle.lab_explore.specs.declared.reached.Visited.{Visited}
use Rattle.lab_explore.specs.Visits.{start_of, IsVisited}
use Rattle.lab_explore.specs.Private.Judged.{NoRowHolds, NoEdgeLoses, NoneRefuses}
use Rattle.lab_explore.specs.Private.Keeping.{IsOfOneProcess}
use Rattle.lab_explore.proofs.Explorations.{whole_visited}
use Rattle.lab_explore.proofs.KeptConditions.{never_holds}
use Rattle.lab_explore.proofs.KeptLosses.{never_loses}
use Rattle.lab_explore.proofs.KeptRefusals.{never_refuses}
use Rattle.lab_explore.proofs.KeptStates.{never_holds_of_one}
use Rattle.lab_explore.proofs.MetWorlds.{IsStart, is_start}
use Rattle.lab_explore.proofs.ShownProcesses.{shows_in}

module _ (v : Visited) (visited : IsVisited v) (complete : IsTrue v.complete) where
  starts : IsStart (start_of v)
  starts = is_start v.processes.items visited.starts

  pub shows : ShowsProcesses (start_of v) v.store
  shows = shows_in v.reduced (start_of v) v.store starts (visited.searched complete)

  pub holds_never : (c : Condition) → (IsTrue v.reduced → IsOfOneProcess c) → NoRowHolds v.store c → NeverHolds (start_of v) c
  holds_never c asked none = by v.reduced refl
    where
      by : (b : Bool) → v.reduced ≡ b → NeverHolds (start_of v) c
      by false e = never_holds c (start_of v) v.store starts ((whole_visited v visited e).searched complete) none
      by true e = never_holds_of_one c (start_of v) v.store starts.asks shows (asked e) none

  pub loses_never : (IsTrue v.reduced → ⊥) → NoEdgeLoses v.store → NeverBreaks (start_of v) never.Lost
  loses_never asked none = by v.reduced refl
    where
      by : (b : Bool) → v.reduced ≡ b → NeverBreaks (start_of v) never.Lost
      by false e = never_loses (start_of v) v.store starts ((whole_visited v visited e).searched complete) none
      by true e = absurd (asked e)

  pub refuses_never : (r : Refusal) → NoneRefuses r (start_of v) v.store → NeverBreaks (start_of v) (never.Refused r)
  refuses_never r none = never_refuses r (start_of v) v.store shows none
