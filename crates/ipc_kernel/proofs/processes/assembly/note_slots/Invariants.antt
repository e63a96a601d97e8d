use Rattle.std.proofs.Common.{◌≡◌, ℕ, ◌+◌, slice_index, count_by, take}
use Rattle.ipc_kernel.specs.Processes.{slot_refers}
use Rattle.ipc_kernel.proofs.processes.assembly.note_slots.Given as goal

abbrev pub invariant-loop-slot : goal.invariant-loop-slot
invariant-loop-slot l =
    (k : ℕ) → slice_index l.counts k ≡ slice_index l.initial.counts k + count_by (slot_refers k) (take l.slot-index l.slots)
