use Rattle.std.proofs.Common.{◌<◌, w64, arith}
use Rattle.std.proofs.lemmas.Nat.Bits.{bit_at_set_same, bit_at_set_other}
use Rattle.lab_sched.proofs.ReportAdditions.{not_ended, stopped_more, short_more}
use Rattle.lab_sched.proofs.world.World.bits_of_left.Goals as goal

pub loop-pid-preserved : goal.loop-pid-preserved
loop-pid-preserved c =
    let i = c.loop-pid.pid in
    let place : i < 64 = omega (arith, c.count-pid-end.ensures.few) in
    let marked = bit_at_set_same w64 c.loop-pid.bits i place in
    let others = bit_at_set_other w64 c.loop-pid.bits i place in
    record {
      stopped = stopped_more c.args.self.now c.args.left.now c.loop-pid.bits _ i marked others c.loop-pid.invariant.stopped;
      bits = short_more c.args.self.now c.args.left.now c.loop-pid.bits _ i others (record {
        there = omega (arith, c.count-pid-end.ensures.count);
        some = omega (arith, c.if-left-pid-eq0.false);
        not_ended = λ s at. not_ended c.args.self.now i s (c.can_step.ensures.yes c.if-not-can_step.false) at;
      }) c.loop-pid.invariant.bits;
    }
