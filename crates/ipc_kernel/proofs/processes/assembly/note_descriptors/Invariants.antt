use Rattle.std.proofs.Common.{◌≡◌, ℕ, ◌+◌, slice_index, count_by, take}
use Rattle.ipc_kernel.specs.Processes.{descriptor_refers}
use Rattle.ipc_kernel.proofs.processes.assembly.note_descriptors.Given as goal

abbrev pub invariant-loop-descriptor : goal.invariant-loop-descriptor
invariant-loop-descriptor l =
    (k : ℕ) → slice_index l.counts k ≡ slice_index l.initial.counts k + count_by (descriptor_refers k) (take l.descriptor-index l.descriptors)
