use Rattle.std.proofs.Common.{◌<◌, length, arith}
use Rattle.std.proofs.lemmas.Bool.Decides.{nat_tests}
use Rattle.lc3_messages.proofs.ToldLemmas.{told_more, told_less}
use Rattle.lc3_messages.proofs.source.told_faults.Goals as goal
use Rattle.lc3_messages.proofs.source.told_faults.Goals.{then-is_empty+in_ok-push, else-is_empty+in_ok-may_follow+else-not-branch}

pub loop-fault-preserved : goal.loop-fault-preserved
loop-fault-preserved c =
    let faults = c.args.faults.now in
    let told = c.loop-fault.told.items in
    let i = c.loop-fault.fault-index in
    elim c.if-is_empty.branch [
      | then-is_empty+in_ok-push w ↦ rw w.told-is (told_more faults told _ i _ c.loop-fault-test.true w.in_ok-push.ensures.items c.loop-fault.invariant.0)
      | else-is_empty+in_ok-may_follow+else-not-branch w ↦
          let some : 0 < length c.loop-fault.told.items = grind (arith, nat_tests, c.is_empty.ensures, w.if-is_empty.false) in
          let about = w.in_ok-may_follow.ensures.labels (grind (arith, w.if-not-branch.false)) in
          rw w.told-is (told_less faults told i _ c.loop-fault-test.true about some c.loop-fault.invariant.0)
    ]
