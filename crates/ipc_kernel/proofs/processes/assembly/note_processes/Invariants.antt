use Rattle.std.proofs.Common.{◌≡◌, ℕ, ◌+◌, slice_index, take, All}
use Rattle.ipc_kernel.specs.Private.Counts.{references_to, HasFullTables}
use Rattle.ipc_kernel.proofs.processes.assembly.note_processes.Given as goal

abbrev pub invariant-loop-process : goal.invariant-loop-process
invariant-loop-process l =
    ((k : ℕ) → slice_index l.counts k ≡ slice_index l.initial.counts k + references_to k (take l.process-index l.processes))
    × All HasFullTables (take l.process-index l.processes)
