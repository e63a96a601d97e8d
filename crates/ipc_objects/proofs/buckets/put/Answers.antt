use Rattle.std.proofs.lemmas.Result.{on_ok_weaker, on_err_weaker}
use Rattle.ipc_objects.proofs.BucketLemmas.{put_in, put_back}
use Rattle.ipc_objects.proofs.buckets.put.Goals as goal

pub returns-in-Some-clause-ok : goal.returns-in-Some-clause-ok
returns-in-Some-clause-ok c = on_ok_weaker c.push.result (λ is. put_in c.args.message _ _ _ _ c.get_mut.ensures.ordered c.in-Some.ensures.value (c.get_mut.follows.holds c.push.new.self).0 is) c.push.ensures.ok

pub returns-in-Some-clause-err : goal.returns-in-Some-clause-err
returns-in-Some-clause-err c = on_err_weaker c.push.result (λ same. put_back c.args.message.priority _ _ _ _ c.in-Some.ensures.value (c.get_mut.follows.holds c.push.new.self).0 same) c.push.ensures.err
