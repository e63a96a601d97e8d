use Rattle.std.proofs.Common.{rules}
use Rattle.std.proofs.lemmas.List.{take_all}
use Rattle.ipc_kernel.proofs.PlaceLemmas.{empty_of}
use Rattle.ipc_kernel.proofs.AssemblyLemmas.{padded_full, padded_less}
use Rattle.ipc_kernel.proofs.places.assembly.used_count.Goals as goal

pub loop-count-init : goal.loop-count-init
loop-count-init c = search (rules, take_all, padded_full)

pub loop-count-preserved : goal.loop-count-preserved
loop-count-preserved c = search (rules, empty_of, padded_less)
