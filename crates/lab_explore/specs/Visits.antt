-- What a search visited from the start of a laboratory.
use Rattle.std.specs.Prelude.{IsTrue}
use Rattle.lab_sched.specs.Worlds.{WorldState}
use Rattle.lab_sched.specs.Starts.{AreStarts, initial_world}
use Rattle.lab_search.specs.Reduced.{IsSearchedIn}
use Rattle.lab_search.specs.Stored.{IsStore, IsSearched}
use Rattle.lab_explore.specs.declared.reached.Visited.{Visited}

-- the world from which the search began
abbrev pub start_of : Visited → WorldState
start_of v = initial_world v.processes.items

-- the search began before the first step of the processes; where it is complete, it holds each step that it has to
pub record IsVisited (v : Visited) : Type 0 where
  pub starts : AreStarts v.processes.items
  pub store : IsTrue v.complete → IsStore v.store
  pub searched : IsTrue v.complete → IsSearchedIn v.reduced (start_of v) v.store

-- the same, and where it is complete, it holds each step
pub record IsWhole (v : Visited) : Type 0 where
  pub visited : IsVisited v
  pub searched : IsTrue v.complete → IsSearched (start_of v) v.store
