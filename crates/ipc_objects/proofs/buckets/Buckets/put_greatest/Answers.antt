use Rattle.std.proofs.Common.{rules}
use Rattle.ipc_objects.proofs.BucketLemmas.{buckets_with, joined_with}
use Rattle.ipc_objects.proofs.buckets.Buckets.put_greatest.Goals as goal

pub invariant_of-self : goal.invariant_of-self
invariant_of-self c = search (rules, buckets_with)

pub returns-in-Ok-clause-ok : goal.returns-in-Ok-clause-ok
returns-in-Ok-clause-ok c = search (rules, joined_with)
