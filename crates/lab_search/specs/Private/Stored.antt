-- What a search keeps: kernels, states of processes, and worlds as places among these.
use Rattle.std.specs.Prelude.{ℕ, ◌≡◌, true, List, [], Some, get_or, slice_get, slice_set}
use Rattle.ipc_kernel.specs.Kernel.{KernelState, IsSettled}
use Rattle.ipc_kernel.specs.Alike.{IsAlike}
use Rattle.ipc_kernel.specs.Operands.{with_operand, are_named}
use Rattle.ipc_kernel.specs.declared.place.Place.{Place}
use Rattle.ipc_kernel.specs.declared.process.OpenTables.{OpenTables}
use Rattle.ipc_store.specs.declared.uses.ProcessUse.{ProcessUse}
use Rattle.ipc_store.specs.Kept.{KeptKernels, GrowsKept}
use Rattle.ipc_store.specs.Uses.{uses_but}
use Rattle.lab_sched.specs.Worlds.{Process, WorldState, step_effect, step_effect_in}
use Rattle.lab_sched.specs.Held.{step_of}
use Rattle.lab_worlds.specs.Calls.{IsAhead, Alongside}
use Rattle.lab_worlds.specs.Private.Kept.{Keeps}
use Rattle.lab_worlds.specs.Stepped.{IsReached}
use Rattle.lab_worlds.specs.declared.errors.Errors.{Errors}
use Rattle.lab_worlds.specs.Errors.{IsAnswered}
use Rattle.lab_worlds.specs.Independent.{IsIndependent, HaveEnded}
use Rattle.lab_worlds.specs.Unwaiting.{GoesOn}
use Rattle.lab_states.specs.Rows.{Row}
use Rattle.lab_search.specs.declared.store.Mover.{Mover}
use Rattle.lab_search.specs.declared.reduced.KeptAttempt.{KeptAttempt}
use Rattle.lab_search.specs.declared.reduced.KeptAttempt.TheVariants.{Still, Runs, Came}
use Rattle.lab_search.specs.declared.moves.Change.{Change}
use Rattle.lab_search.specs.declared.store.Store.{Store}
use Rattle.lab_search.specs.declared.store.Next.{Next}
use Rattle.lab_search.specs.declared.store.Next.TheVariants.{To}
use Rattle.lab_search.specs.declared.footprints.Effect.{Effect}
use Rattle.lab_search.specs.Stored.{IsState, IsExactly, IsAt, IsNext, IsNextAt, IsEffect, IsStore}

-- the output with this number
abbrev pub output_at : Store → ℕ → List ℕ
output_at t n = get_or t.states.outputs n []

-- the row after a change
abbrev pub changed : Row → Change → Row
changed r c = record { kernel = c.kernel; states = slice_set r.states c.pid c.state }

-- row number j is that of the row at its place
abbrev pub IsAfter : Store → Change → ℕ → Type 0
IsAfter t c j =
    (r : Row) × (slice_get t.rows c.at ≡ Some r) × (slice_get t.rows j ≡ Some (changed r c))

-- the process goes on so from the world of the row at its place
abbrev pub IsStep : Store → Change → Type 0
IsStep t c = (taken : ℕ) × (errors : Errors) × IsNextAt t c.at c.pid (To c.kernel c.state taken errors)

-- nothing is lost
pub record Grows (t u : Store) : Type 0 where
  pub kernels : GrowsKept t.kernels u.kernels
  pub states : Keeps t.states.processes u.states.processes
  pub rows : Keeps t.rows u.rows
  pub edges : Keeps t.edges u.edges

-- the second is a store, which has what the first has
pub record IsLater (t u : Store) : Type 0 where
  pub grows : Grows t u
  pub store : IsStore u

-- what whatever settled kernel, and whatever process, have these places do next
abbrev pub IsMoveFrom : Store → Mover → Next → Type 0
IsMoveFrom t m next =
    (k : KernelState) (s : Process) → IsExactly t m.kernel k → IsSettled k → IsState t m.state s
    → IsNext t k m.pid s next

-- the kernel with number i among later ones is alike that of a mover, but for the object with this number in a place and the tables
-- with this number, where that is settled
abbrev pub IsChanged : KeptKernels → KeptKernels → Mover → ℕ → ℕ → ℕ → ℕ → Type 0
IsChanged t u m place object tables i =
    (k : KernelState) (o : Place) (x : OpenTables) → slice_get t.kernels m.kernel ≡ Some k
    → slice_get t.objects object ≡ Some o → slice_get t.tables tables ≡ Some x
    → IsSettled (with_operand k m.pid place o x)
    → (j : KernelState) × (slice_get u.kernels i ≡ Some j) × IsAlike (with_operand k m.pid place o x) j × IsSettled j

-- what comes of an effect on the object in a place is what the process does next, as a later store has it
abbrev pub IsNextBy : Store → Store → Mover → ℕ → Effect → Next → Type 0
IsNextBy t u m i effect next =
    (k : KernelState) (s : Process) → IsExactly t m.kernel k → IsSettled k
    → IsEffect t k m.pid s i effect → IsNext u k m.pid s next

-- what a step of process p makes of the kernel, and the state of p after it and all its local steps, by its place
abbrev pub IsKeptStep : Store → KernelState → ℕ → Process → KeptAttempt → Type 0
IsKeptStep t k p s Still = GoesOn (step_effect k p (Some s)) → ⊥
IsKeptStep t k p s Runs = GoesOn (step_effect k p (Some s))
IsKeptStep t k p s (Came kernel state taken errors) =
    (u : Process) × (kernel ≡ (step_of k p s).kernel) × IsState t state u
    × IsReached (step_of k p s).process u × GoesOn (step_effect k p (Some s))
    × IsAnswered k p s taken errors u

-- the same where the kernel, which is settled, and the process are given by their places in a store, and what comes of the step
-- by its place in a later one
abbrev pub IsKeptAttempt : Store → Store → Mover → KeptAttempt → Type 0
IsKeptAttempt t u m attempt =
    (k : KernelState) × (s : Process) × IsExactly t m.kernel k × IsState t m.state s × IsSettled k
    × IsKeptStep u k m.pid s attempt

-- the state at a place is the process after all its local steps
abbrev pub IsLocalSuccessor : Store → ℕ → Process → Type 0
IsLocalSuccessor t i s = (u : Process) × IsState t i u × IsAhead s u

-- the same of each process
abbrev pub AreInitialStates : Store → List ℕ → List Process → Type 0
AreInitialStates t is ss = Alongside (IsLocalSuccessor t) is ss

-- the step of process p from the world of row number i is independent, as long as each keeps to the uses, but for some that have
-- ended
pub record IsIndependentAt (uses : List ProcessUse) (t : Store) (i p : ℕ) : Type 0 where
  pub ended : List ℕ
  pub have_ended : (w : WorldState) → IsAt t i w → HaveEnded w ended
  pub row : (r : Row) × (slice_get t.rows i ≡ Some r)
  pub independent : (w : WorldState) → IsAt t i w → are_named w.kernel.places ≡ true
      → IsIndependent (uses_but ended uses) w.kernel p (step_effect_in w p)
