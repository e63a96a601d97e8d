use Rattle.std.proofs.Common.{rules}
use Rattle.std.proofs.lemmas.Result.{on_ok_weaker}
use Rattle.ipc_objects.proofs.BucketLemmas.{buckets_pushed, joined_put}
use Rattle.ipc_objects.proofs.buckets.Buckets.push.Goals as goal

pub invariant_of-self : goal.invariant_of-self
invariant_of-self c = buckets_pushed c.put.result c.args.message c.self.inside.by_priority.entries _ c.self.invariant c.put.ensures.ok c.put.ensures.err c.put.ensures.ordered

pub returns-clause-ok : goal.returns-clause-ok
returns-clause-ok c = search (rules, on_ok_weaker, joined_put)
