use Rattle.std.proofs.Common.{refl, ◌∙◌, arith, rules}
use Rattle.lab_sched.specs.Schedules.{steps_of}
use Rattle.lab_sched.proofs.ReportAdditions.{added_none, added_taken, added_more, added_length}
use Rattle.lab_sched.proofs.world.World.settle_process.Goals as goal

pub loop-taken-init : goal.loop-taken-init
loop-taken-init c = record { added = added_none _; len = refl; within = omega arith; total = omega arith }

pub returns-in_default-clause-added : goal.returns-in_default-clause-added
returns-in_default-clause-added c = rw c.in_default.ensures.err c.loop-taken.invariant.added

pub loop-taken-preserved : goal.loop-taken-preserved
loop-taken-preserved c =
    let more = added_taken c.take_steps-more.ensures.taken (c.replace_last.ensures.steps (steps_of c.loop-taken.schedule) c.args.pid c.in-Ok.ensures.steps) in
    record {
      added = added_more c.loop-taken.taken c.take_steps-more.result c.args.pid c.loop-taken.invariant.added more;
      len = added_length more ∙ c.loop-taken.invariant.len;
      within = omega (arith, c.take_steps-more.ensures.within, c.loop-taken-test.true);
      total = omega (arith, c.in-Ok.ensures.total, c.replace_last.ensures.total, c.loop-taken.invariant.total);
    }

pub returns-then-more-eq0-clause-added : goal.returns-then-more-eq0-clause-added
returns-then-more-eq0-clause-added c = search (rules, added_more, added_taken)
