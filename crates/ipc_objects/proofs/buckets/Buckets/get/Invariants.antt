use Rattle.std.proofs.Common.{◌≡◌}
use Rattle.std.specs.List.{slice_get}
use Rattle.std.specs.Iterator.Adapters.{rev_source}
use Rattle.ipc_objects.specs.Private.Buckets.{messages_of_buckets}
use Rattle.ipc_objects.proofs.buckets.Buckets.get.Given as goal

abbrev pub invariant-loop-bucket : goal.invariant-loop-bucket
invariant-loop-bucket l = slice_get l.self l.n ≡ slice_get (messages_of_buckets (rev_source l.bucket-iterator)) l.left
