-- A book as contracts see it, and what a call adds to its history.
use Rattle.std.specs.Prelude.{ℕ, ◌≡◌, ◌++◌, List, [], ◌∷◌, Option, Some, None}
use Rattle.ipc_kernel.specs.Kernel.{KernelState, empty_kernel}
use Rattle.ipc_kernel.specs.declared.call.Call.{Call}
use Rattle.ipc_kernel.specs.declared.call.Answer.{Answer}
use Rattle.ipc_kernel.specs.declared.call.Answer.TheVariants.{Done, Wait}
use Rattle.lab_sched.specs.declared.stepped.Entry.{Entry}
use Rattle.lab_sched.specs.History.{replay, waits}

-- the number of processes, and the calls so far with their answers
pub record BookState : Type 0 where
  pub count : ℕ
  pub history : List Entry

-- the kernel after all calls of a book
abbrev pub kernel_of : BookState → KernelState
kernel_of b = replay (empty_kernel b.count) b.history

-- the entry of a call, but none where a process that waits must still wait
abbrev pub entries_of_call : Option Call → ℕ → Call → Answer → List Entry
entries_of_call None p c a = record { pid = p; call = c; answer = a } ∷ []
entries_of_call (Some d) p c Wait = []
entries_of_call (Some d) p c (Done r) = record { pid = p; call = c; answer = Done r } ∷ []

-- the history of a book after a call of process p with this answer
abbrev pub history_after : BookState → ℕ → Call → Answer → List Entry
history_after b p c a = b.history ++ entries_of_call (waits b.history p) p c a

-- a process that waits makes no other call than the one that it waits for
abbrev pub MayCall : Option Call → Call → Type 0
MayCall None c = Unit {0}
MayCall (Some d) c = d ≡ c
