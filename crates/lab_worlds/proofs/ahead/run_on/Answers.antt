use Rattle.std.proofs.Common.{◌-◌, refl, subst, arith}
use Rattle.lc3_machine.proofs.Runs.{steps_append, steps_more}
use Rattle.lab_sched.specs.Held.{process_view}
use Rattle.lab_sched.specs.LocalRun.{IsLocalStep}
use Rattle.lab_worlds.specs.Errors.{IsLocalStepAmong}
use Rattle.lab_worlds.specs.Private.Onward.{IsOnward}
use Rattle.lab_worlds.proofs.ErrorLemmas.{local_more, refused_among}
use Rattle.lab_worlds.proofs.ahead.run_on.Goals as goal

pub loop-taken-preserved : goal.loop-taken-preserved
loop-taken-preserved c =
    let s = process_view c.args.process.now in
    let u = process_view c.loop-taken.process in
    let v = process_view c.go_onward.new.process in
    let n = c.loop-taken.taken in
    let errors = c.and-errors.result in
    let below = c.loop-taken-test.true in
    let on = subst (λ o. IsOnward u (c.args.most - c.loop-taken.taken) o v) c.in-Refused.is c.in_ok-more.ensures.onward in
    record {
      local = steps_more IsLocalStep n s u v c.loop-taken.invariant.local on.0;
      errors = steps_more (IsLocalStepAmong errors) n s u v (local_more c.loop-taken.errors errors n s u c.and-errors.ensures.these c.loop-taken.invariant.errors)
          (refused_among errors c.in-Refused.number u v on.0 on.1 (c.and-errors.ensures.others c.in-Refused.number refl));
      held = c.go_onward.ensures.held;
      within = omega (arith, below);
    }

pub loop-taken-preserved-in-Moved : goal.loop-taken-preserved-in-Moved
loop-taken-preserved-in-Moved c =
    let s = process_view c.args.process.now in
    let u = process_view c.loop-taken.process in
    let v = process_view c.go_onward.new.process in
    let n = c.loop-taken.taken in
    let below = c.loop-taken-test.true in
    let on = subst (λ o. IsOnward u (c.args.most - c.loop-taken.taken) o v) c.in-Moved.is c.in_ok-more.ensures.onward in
    let within = on.1 in
    record {
      local = steps_append IsLocalStep n c.in-Moved.more s u v c.loop-taken.invariant.local on.2;
      errors = steps_append (IsLocalStepAmong c.loop-taken.errors) n c.in-Moved.more s u v c.loop-taken.invariant.errors (on.3 c.loop-taken.errors);
      held = c.go_onward.ensures.held;
      within = omega (arith, below, within);
    }
