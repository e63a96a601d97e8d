use Rattle.std.proofs.Common.{ap, sym, subst, ◌∙◌, ◌++◌, Some, rules}
use Rattle.std.proofs.lemmas.Result.{on_ok_weaker}
use Rattle.ipc_objects.specs.Queue.{after_send}
use Rattle.ipc_objects.specs.Private.Buckets.{AreBelow, after_greatest}
use Rattle.ipc_objects.proofs.BucketLemmas.{below_sent, sent_beside, sent_below, sent_put}
use Rattle.ipc_objects.proofs.messages.Messages.push.Goals as goal
use Rattle.ipc_objects.proofs.messages.Messages.push.Goals.{in_default-via-in-Some-2+else-message-priority-2, in_default-via-in_default}

below_greatest : (c : goal.After-push-in-Some-2) → AreBelow (Some (c.in-Some.priority, c.in-Some.bucket)) c.self.inside.lesser
below_greatest c = subst (λ o. AreBelow o c.self.inside.lesser) c.in-Some.is c.self.invariant

pub invariant_of-self-then-message-priority-2 : goal.invariant_of-self-then-message-priority-2
invariant_of-self-then-message-priority-2 c =
    let below = below_greatest c in
    (below.0, below_sent c.push-in-Some-2.result c.args.message c.in-Some.priority c.self.inside.lesser _ below.1 c.if-message-priority-2.true c.push-in-Some-2.ensures.ok c.push-in-Some-2.ensures.err)

pub returns-in-Some-clause-ok : goal.returns-in-Some-clause-ok
returns-in-Some-clause-ok c = search (rules, on_ok_weaker, sent_beside)

pub returns-in-Some-2-clause-ok : goal.returns-in-Some-2-clause-ok
returns-in-Some-2-clause-ok c =
    on_ok_weaker c.push-in-Some-2.result
    (λ is. ap (λ ms. c.in-Some.bucket ++ ms) is ∙ sent_below c.args.message c.in-Some.priority c.in-Some.bucket c.self.inside.lesser (below_greatest c) c.if-message-priority-2.true ∙ ap (after_send c.args.message) (sym (ap (λ o. after_greatest o c.self.inside.lesser) c.in-Some.is) ∙ c.self.view_is)) c.push-in-Some-2.ensures.ok

pub returns-in_default-clause-ok : goal.returns-in_default-clause-ok
returns-in_default-clause-ok c = search (rules, in_default-via-in-Some-2+else-message-priority-2, sent_put, in_default-via-in_default)
