use Rattle.ipc_objects.proofs.BucketLemmas.{copied_more}
use Rattle.ipc_objects.proofs.buckets.copy_of.Goals as goal

pub loop-priority-preserved-in_ok-insert : goal.loop-priority-preserved-in_ok-insert
loop-priority-preserved-in_ok-insert c =
    copied_more c.args.buckets.now.entries c.loop-priority.copy.entries _ _ _ (c.in-Some.priority.now, c.in-Some.bucket.now) _ c.into_iter-priority-iterator.ensures.into_iter_gives.5 c.loop-priority.invariant c.in-Some.ensures.steps c.in_ok-copy.ensures.equal c.in_ok-insert.ensures.entries

pub loop-priority-preserved : goal.loop-priority-preserved
loop-priority-preserved c =
    copied_more c.args.buckets.now.entries c.loop-priority.copy.entries _ _ _ (c.in-Some.priority.now, c.in-Some.bucket.now) _ c.into_iter-priority-iterator.ensures.into_iter_gives.5 c.loop-priority.invariant c.in-Some.ensures.steps c.in_ok-copy.ensures.equal c.in_ok-insert.ensures.entries
