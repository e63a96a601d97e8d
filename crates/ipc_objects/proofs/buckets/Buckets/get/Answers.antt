use Rattle.std.proofs.Common.{sym, arith, ◌∙◌, rules}
use Rattle.ipc_objects.proofs.BucketLemmas.{entry_here, entry_past}
use Rattle.ipc_objects.proofs.buckets.Buckets.get.Goals as goal

pub returns-then-left-count : goal.returns-then-left-count
returns-then-left-count c =
    record { message = c.get.ensures.message ∙ sym (c.loop-bucket.invariant ∙ entry_here _ _ (c.in-Some.field-0-0.now, c.in-Some.bucket.now) c.loop-bucket.left c.in-Some.ensures.steps (omega (arith, c.len-count.ensures.length, c.if-left-count.true))) }

pub loop-bucket-preserved : goal.loop-bucket-preserved
loop-bucket-preserved c = search (rules, entry_past)
