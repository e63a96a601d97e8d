use Rattle.std.proofs.Common.{arith, ap, subst, Some, length}
use Rattle.ipc_objects.specs.Private.Buckets.{AreBelow}
use Rattle.ipc_objects.proofs.BucketLemmas.{bucket_rest}
use Rattle.ipc_objects.proofs.messages.take_first.Goals as goal

pub returns-then-len-gt1-clause-below : goal.returns-then-len-gt1-clause-below
returns-then-len-gt1-clause-below c =
    let below : AreBelow (Some (c.in-Some.field-0-0, c.in-Some.bucket)) c.args.lesser.now = subst (λ o. AreBelow o c.args.lesser.now) c.in-Some.is c.requires.below in
    (bucket_rest c.in-Some.field-0-0 c.pop_front.result _ _ below.0 c.pop_front.ensures.first (omega (arith, c.if-len-gt1.true, c.len.ensures.length, ap length c.pop_front.ensures.first)), below.1)
