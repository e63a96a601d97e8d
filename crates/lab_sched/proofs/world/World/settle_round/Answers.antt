use Rattle.std.proofs.Common.{◌<◌, ◌∙◌, refl, sym, arith, length, rules}
use Rattle.std.proofs.lemmas.List.{length-set}
use Rattle.lab_sched.proofs.ReportAdditions.{settled_none, settled_more, sum_less, sum_at, added_length}
use Rattle.lab_sched.proofs.world.World.settle_round.Goals as goal

pub loop-pid-init : goal.loop-pid-init
loop-pid-init c = record { settled = settled_none _ _; len = c.requires.len; count = refl; total = refl }

pub settle_process-requires-clause-room : goal.settle_process-requires-clause-room
settle_process-requires-clause-room c = search (rules, sum_at)

pub loop-pid-preserved : goal.loop-pid-preserved
loop-pid-preserved c =
    let left = c.loop-pid.left in
    let i = c.loop-pid.pid in
    let k = c.settle_process.result in
    let added = c.settle_process.ensures.added in
    let fits = c.settle_process.ensures.within in
    let within : i < length left = omega (arith, c.loop-pid.invariant.len, c.loop-pid.invariant.count) in
    record {
      settled = settled_more i k c.loop-pid.invariant.settled added fits within;
      len = length-set left i _ ∙ c.loop-pid.invariant.len ∙ sym (added_length added);
      count = added_length added ∙ c.loop-pid.invariant.count;
      total = omega (arith, sum_less left i k within fits, c.settle_process.ensures.total, c.loop-pid.invariant.total);
    }
