-- What a process of a world does next, and what settling takes of it.
use Rattle.std.specs.Prelude.{ℕ, ◌≡◌, ◌≤◌, ◌++◌, List, [], Some, slice_get, replicate}
use Rattle.ipc_kernel.specs.declared.call.Call.{Call}
use Rattle.lab_sched.specs.Worlds.{Process, WorldState}
use Rattle.lab_sched.specs.Execution.{IsExecution}
use Rattle.lab_sched.specs.declared.stepped.Entry.{Entry}
use Rattle.lab_sched.specs.declared.calling.Next.{Next}
use Rattle.lab_sched.specs.declared.calling.Next.TheVariants as next
use Rattle.ipc_kernel.specs.declared.call.Answer.{Answer}
use Rattle.ipc_kernel.specs.declared.call.Answer.TheVariants.{Done, Wait}
use Rattle.lab_sched.specs.declared.stepped.Stepped.{Stepped}
use Rattle.lab_sched.specs.declared.stepped.Stepped.TheVariants as stepped
use Rattle.lab_sched.specs.Settling.{AsksFor}

-- process p asks for a call, or waits for it
abbrev pub AsksIn : WorldState → ℕ → Call → Type 0
AsksIn w p c = (s : Process) × (slice_get w.processes p ≡ Some s) × AsksFor s c

-- what process p does next, over the whole world
abbrev pub IsNextIn : WorldState → ℕ → ℕ → Next → WorldState → Type 0
IsNextIn w p most (next.Moved n) v = (n ≤ most) × IsExecution w (replicate n p) v []
IsNextIn w p most (next.Asks c) v = (v ≡ w) × AsksIn w p c
IsNextIn w p most next.Ended v = v ≡ w
IsNextIn w p most next.Short v = v ≡ w

-- the effective steps ps lead from one world to the other, and their entries are added
pub record IsTaken (w : WorldState) (es : List Entry) (ps : List ℕ) (v : WorldState) (fs : List Entry) : Type 0 where
  pub told : List Entry
  pub execution : IsExecution w ps v told
  pub entries : fs ≡ es ++ told

-- the answer of a call, by what is told of its step
abbrev pub answer_told : Stepped → Answer
answer_told (stepped.Called r) = Done r
answer_told other = Wait
