use Rattle.std.proofs.Common.{rules}
use Rattle.std.proofs.lemmas.List.{length-append}
use Rattle.ipc_kernel.proofs.AssemblyLemmas.{padded_full, padded_more}
use Rattle.ipc_kernel.proofs.places.assembly.padded.Goals as goal

pub loop-all-preserved : goal.loop-all-preserved
loop-all-preserved c = search (rules, length-append, padded_more)

pub returns : goal.returns
returns c = search (rules, padded_full)
