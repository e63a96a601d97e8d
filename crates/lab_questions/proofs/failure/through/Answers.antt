use Rattle.std.proofs.Common.{◌∙◌, ◌++◌, Some, ap, subst, sym}
use Rattle.lab_sched.specs.Schedules.{steps_of}
use Rattle.lab_sched.proofs.ScheduleRuns.{steps_of-none}
use Rattle.lab_questions.specs.Answered.{IsThrough}
use Rattle.lab_questions.proofs.failure.through.Goals as goal

pub returns : goal.returns
returns c =
    let lasso = c.in-Some.lasso in
    let empty = ap steps_of c.new-whole.ensures.empty ∙ steps_of-none in
    let first = c.in_ok-push_blocks.ensures.steps ∙ ap (λ l. l ++ steps_of c.blocks-2.result.now) empty ∙ ap steps_of c.blocks-2.ensures.value in
    let whole = c.in_ok-push_blocks-2.ensures.steps ∙ ap (λ l. l ++ steps_of c.blocks-3.result.now) first
    ∙ ap (λ bs. steps_of lasso.schedule ++ steps_of bs) c.blocks-3.ensures.value in
    record { through = subst (λ r. IsThrough r (Some c.push_blocks-2.new.schedule)) (sym c.in-Some.is) whole }
