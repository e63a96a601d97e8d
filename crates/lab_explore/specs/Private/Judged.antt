-- What is judged of the rows and edges of a search.
use Rattle.std.specs.Prelude.{ℕ, ◌≡◌, ◌↔◌, ◌<◌, ◌≤◌, false, List, Some, All, IsTrue, slice_get}
use Rattle.ipc_kernel.specs.Kernel.{KernelState}
use Rattle.lab_sched.specs.Worlds.{Process, WorldState}
use Rattle.lab_sched.specs.Held.{asked_by, local_told, step_of}
use Rattle.lab_sched.specs.LocalRun.{IsLocalStep, AreLocal}
use Rattle.lab_conditions.specs.declared.condition.Condition.{Condition}
use Rattle.lab_conditions.specs.Conditions.{Holds, world_of}
use Rattle.lab_conditions.specs.Losses.{messages, is_receiving}
use Rattle.lab_conditions.specs.Refusals.{is_process, is_refused}
use Rattle.lab_conditions.specs.declared.never.Refusal.{Refusal}
use Rattle.lab_states.specs.CollapsedStates.{IsButForOutput}
use Rattle.lab_states.specs.declared.edges.Edge.{Edge}
use Rattle.lab_search.specs.declared.store.Store.{Store}
use Rattle.lab_search.specs.Stored.{IsExactly, IsState, IsAt}

-- the state at a place is that of the process, but for its output
abbrev pub IsSilently : Store → ℕ → Process → Type 0
IsSilently t i s = (u : Process) × IsState t i u × IsButForOutput s u

-- the condition holds of the world of row number i
abbrev pub RowHolds : Store → Condition → ℕ → Type 0
RowHolds t c i = (w : WorldState) → IsAt t i w → Holds c w

-- it doesn't
abbrev pub RowFails : Store → Condition → ℕ → Type 0
RowFails t c i = (w : WorldState) → IsAt t i w → Holds c w → ⊥

-- the condition holds of some processes over this kernel where it holds of them over kernel number i
abbrev pub JudgesFor : Store → Condition → ℕ → KernelState → Type 0
JudgesFor t c i k = (j : KernelState) (ps : List Process) → IsExactly t i j → Holds c (world_of k ps) ↔ Holds c (world_of j ps)

-- the condition doesn't hold of the world of row number i, if that stands before another
abbrev pub FailsBefore : Store → Condition → ℕ → ℕ → Type 0
FailsBefore t c first i = i < first → RowFails t c i

-- of some rows, the first of whose world the condition holds; the end where it holds of the world of none
pub record IsFirst (t : Store) (c : Condition) (end : ℕ) (rows : List ℕ) (first : ℕ) : Type 0 where
  pub within : first ≤ end
  pub holds : first < end → RowHolds t c first
  pub before : All (FailsBefore t c first) rows

-- it holds of the world of no row
abbrev pub NoRowHolds : Store → Condition → Type 0
NoRowHolds t c = (i : ℕ) → RowFails t c i

-- the edge is a step to fewer messages, of a process that receives none
pub record IsLoss (t : Store) (e : Edge) : Type 0 where
  pub before : WorldState
  pub after : WorldState
  pub process : Process
  pub from : IsAt t e.from before
  pub to : IsAt t e.to after
  pub there : slice_get before.processes e.pid ≡ Some process
  pub receives_none : is_receiving process ≡ false
  pub fewer : messages after.kernel < messages before.kernel

-- no edge is
abbrev pub NoEdgeLoses : Store → Type 0
NoEdgeLoses t = All (λ e. IsLoss t e → ⊥) t.edges

-- none of the local steps of a process is a call that it refuses so itself
abbrev pub IsQuiet : Refusal → Process → Type 0
IsQuiet r s = (n : ℕ) (u v : Process) → AreLocal n s u → IsLocalStep u v → is_refused r (local_told (asked_by (Some u))) ≡ false

-- the step of process p, which is s over a kernel, isn't refused so, and none of its local steps after it is
pub record IsCalm (r : Refusal) (k : KernelState) (p : ℕ) (s : Process) : Type 0 where
  pub step : is_refused r (step_of k p s).told ≡ false
  pub after : IsQuiet r (step_of k p s).process

-- the steps of process p from the world of row number i are so, if they are meant
abbrev pub IsCalmAt : Refusal → Store → ℕ → ℕ → Type 0
IsCalmAt r t i p = IsTrue (is_process r.process p) → (w : WorldState) (s : Process) → IsAt t i w → slice_get w.processes p ≡ Some s
    → IsCalm r w.kernel p s

-- no local step of process p is, from the start on, if its steps are meant
abbrev pub BeginsQuietly : Refusal → WorldState → ℕ → Type 0
BeginsQuietly r start p = IsTrue (is_process r.process p) → (s : Process) → slice_get start.processes p ≡ Some s → IsQuiet r s

-- no call is refused so, from the start on and from no row
pub record NoneRefuses (r : Refusal) (start : WorldState) (t : Store) : Type 0 where
  pub begins : (p : ℕ) → BeginsQuietly r start p
  pub rows : (i p : ℕ) → IsCalmAt r t i p
