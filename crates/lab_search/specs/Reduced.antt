-- What a search holds that tries an independent step of one process alone.
use Rattle.std.specs.Prelude.{ℕ, ◌≡◌, ◌<◌, ◌⊎◌, Bool, true, false, List, length}
use Rattle.ipc_kernel.specs.Operands.{are_named}
use Rattle.ipc_store.specs.declared.uses.ProcessUse.{ProcessUse}
use Rattle.ipc_store.specs.Uses.{uses_but}
use Rattle.lab_sched.specs.Worlds.{WorldState, step_effect_in}
use Rattle.lab_worlds.specs.Closed.{HasAdvance}
use Rattle.lab_worlds.specs.Independent.{IsIndependent, IsCalm, HaveEnded}
use Rattle.lab_search.specs.declared.store.Store.{Store}
use Rattle.lab_search.specs.Stored.{IsAt, HasEdge, IsExpanded, IsSearched}

-- row number i stands for a world from which a step of one process has an edge, which leads to a later row; the step is
-- independent, as long as each keeps to the uses, but for some that have ended, and each object has a name
abbrev pub HasAmpleStep : List ProcessUse → Store → ℕ → Type 0
HasAmpleStep uses t i =
    (w : WorldState) × IsAt t i w × (p : ℕ) × (ps : List ℕ) × HaveEnded w ps
    × (are_named w.kernel.places ≡ true → IsIndependent (uses_but ps uses) w.kernel p (step_effect_in w p))
    × (x : HasEdge t i w p) × (i < x.1.to)

-- each step by which a process goes on from the world of a row has an edge, or, in a reduced search, an
-- independent step of one has one
abbrev pub IsExpandedIn : Bool → List ProcessUse → Store → ℕ → Type 0
IsExpandedIn false uses t i = IsExpanded t i
IsExpandedIn true uses t i = IsExpanded t i ⊎ HasAmpleStep uses t i

-- the same of each row
abbrev pub AreExpandedIn : Bool → List ProcessUse → Store → Type 0
AreExpandedIn reduced uses t = (i : ℕ) → i < length t.rows → IsExpandedIn reduced uses t i

-- the first row stands for the advance of the start, and each row was tried, or an independent step of one process from
-- it; and in the world of each row what each process is about to do is within the uses
pub record IsSearchedByReduction (start : WorldState) (t : Store) : Type 0 where
  pub uses : List ProcessUse
  pub begins : HasAdvance (IsAt t 0) start
  pub expanded_in : AreExpandedIn true uses t
  pub calm : (i : ℕ) (w : WorldState) → IsAt t i w → IsCalm uses w

-- what a search holds that was reduced or wasn't
abbrev pub IsSearchedIn : Bool → WorldState → Store → Type 0
IsSearchedIn false start t = IsSearched start t
IsSearchedIn true start t = IsSearchedByReduction start t
