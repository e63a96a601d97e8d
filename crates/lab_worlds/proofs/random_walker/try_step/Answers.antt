use Rattle.std.proofs.Common.{Some, ap, subst, arith, rules}
use Rattle.std.proofs.lemmas.Bool.{not-false}
use Rattle.lab_sched.specs.Held.{StepResult, process_view, asked_by}
use Rattle.lab_sched.specs.Worlds.{step_effect}
use Rattle.lab_worlds.specs.Stepped.{IsReached}
use Rattle.lab_worlds.specs.Errors.{HasErrorAmong, AreLocalAmong}
use Rattle.lab_worlds.proofs.ErrorLemmas.{error_more, local_more}
use Rattle.lab_worlds.proofs.random_walker.try_step.Goals as goal

pub returns-then-not-goes_on : goal.returns-then-not-goes_on
returns-then-not-goes_on c = search rules

pub returns-then-not-ahead : goal.returns-then-not-ahead
returns-then-not-ahead c = search rules

pub returns : goal.returns
returns c =
    let s = process_view c.args.process in
    let ok = c.in_ok-stepped.ensures.ok in
    let told = ap (λ (x : StepResult). x.told) ok in
    let at_call = c.in_ok-ahead.ensures.at_call (not-false c.in_ok-ahead.ahead.at_call c.if-not-ahead.false) in
    record {
      stepped = (
        ap (λ (x : StepResult). x.kernel) ok,
        (c.in_ok-ahead.ensures.held, at_call),
        subst (λ x. IsReached x (process_view c.in_ok-ahead.ahead.process)) (ap (λ (x : StepResult). x.process) ok)
            (record { ahead = record { taken = c.in_ok-ahead.ahead.taken; local = c.in_ok-ahead.ensures.local; at_call = at_call }; few = let within = c.in_ok-ahead.ensures.within in omega (arith, within) }),
        c.goes_on.ensures.yes c.if-not-goes_on.false (asked_by (Some s)) (step_effect c.args.kernel c.args.pid (Some s)) told,
        record {
          step = subst (HasErrorAmong c.and.result) told (error_more c.of-errors.result c.and.result c.in_ok-stepped.stepped c.and.ensures.these c.of-errors.ensures.among);
          after = subst (λ x. AreLocalAmong c.and.result c.in_ok-ahead.ahead.taken x (process_view c.in_ok-ahead.ahead.process)) (ap (λ (x : StepResult). x.process) ok)
              (local_more c.in_ok-ahead.ahead.errors c.and.result c.in_ok-ahead.ahead.taken _ (process_view c.in_ok-ahead.ahead.process) c.and.ensures.others c.in_ok-ahead.ensures.errors);
        },
      );
    }
