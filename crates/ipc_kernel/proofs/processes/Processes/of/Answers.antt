use Rattle.std.proofs.Common.{rules, arith, refl, slice_index, ◌≡◌}
use Rattle.ipc_kernel.specs.Private.Counts.{references_to}
use Rattle.ipc_kernel.proofs.CountLemmas.{all_zero}
use Rattle.ipc_kernel.proofs.processes.Processes.of.Goals as goal

pub invariant_of-result : goal.invariant_of-result
invariant_of-result c = record {
  length_of_counts = c.note_processes.auto.counts;
  few = search rules;
  full = rw c.as_slice.ensures.value at (c.if-not-note_processes.ensures.full refl);
  counted = λ k.
      let all : slice_index c.note_processes.new.counts k ≡ references_to k c.as_slice.result.now =
      omega (arith, c.if-not-note_processes.ensures.counted refl k, all_zero 64 k) in
      rw c.as_slice.ensures.value at all;
}
