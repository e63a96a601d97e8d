-- Histories of calls: whether a kernel answers so, the kernel after them, and who waits at their end.
use Rattle.std.specs.Prelude.{ℕ, ◌≡◌, ◌==◌, List, [], ◌∷◌, Option, Some, None, if◌then◌else◌}
use Rattle.ipc_kernel.specs.declared.call.Call.{Call}
use Rattle.ipc_kernel.specs.declared.call.Answer.{Answer}
use Rattle.ipc_kernel.specs.declared.call.Answer.TheVariants.{Done, Wait}
use Rattle.ipc_kernel.specs.Kernel.{KernelState}
use Rattle.ipc_kernel.specs.Answer.{answer}
use Rattle.lab_sched.specs.declared.stepped.Entry.{Entry}

-- the kernel after the calls of a history
abbrev pub replay : KernelState → List Entry → KernelState
replay k [] = k
replay k (e ∷ es) = replay (answer k e.pid e.call).1 es

-- a history is legal from a kernel: each answer is the one of the kernel after the calls before it
abbrev pub IsLegal : KernelState → List Entry → Type 0
IsLegal k [] = Unit {0}
IsLegal k (e ∷ es) = (e.answer ≡ (answer k e.pid e.call).0) × IsLegal (answer k e.pid e.call).1 es

-- the call that waits after its answer
abbrev pub still : Call → Answer → Option Call
still c Wait = Some c
still c (Done r) = None

-- the call that process p waits for after more entries, where it waited for this one before them
abbrev pub waits_after : Option Call → List Entry → ℕ → Option Call
waits_after waited [] p = waited
waits_after waited (e ∷ es) p = waits_after (if e.pid == p then still e.call e.answer else waited) es p

-- the call that process p waits for at the end of a history: its last one, where that was answered Wait
abbrev pub waits : List Entry → ℕ → Option Call
waits h p = waits_after None h p

-- the part of process p
abbrev pub part : List Entry → ℕ → List Entry
part [] p = []
part (e ∷ es) p = if e.pid == p then e ∷ part es p else part es p
