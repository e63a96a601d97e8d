use Rattle.std.proofs.Common.{sym, subst, arith, rules}
use Rattle.lab_sched.specs.LocalRun.{IsLocalRun}
use Rattle.lab_sched.specs.Held.{process_view}
use Rattle.lab_sched.specs.Worlds.{Process}
use Rattle.lab_sched.proofs.LocalSteps.{local_none}
use Rattle.lab_threads.proofs.WorkerSteps.{refused, told_end}
use Rattle.lab_threads.proofs.spawning.advance.Goals as goal

pub returns-then-taken-gt0-clause-alone : goal.returns-then-taken-gt0-clause-alone
returns-then-taken-gt0-clause-alone g c s before = search (rules, c.args.process.now, c.local_steps-taken.new.process, c.write_local.ensures.alone, c.local_steps-taken.ensures.local)

-- a refusal without the kernel, where no local step was taken
pub returns-in-Ok-Refused-clause-alone : goal.returns-in-Ok-Refused-clause-alone
returns-in-Ok-Refused-clause-alone g c s before =
    let x = process_view c.args.process.now in
    let w = process_view c.local_steps-taken.new.process in
    let y = process_view c.ask_call.new.process in
    let same = local_none x w c.local_steps-taken.result.0 c.local_steps-taken.ensures.local (omega arith) in
    let stayed = c.reserve.ensures.alone s w (subst (λ (p : Process). IsLocalRun s c.args.log.now.trace p) (sym same) before) in
    c.write_local-in-Ok-Refused.ensures.alone w y (refused w y c.in-Ok-Refused.field-0-0 (rw c.in-Ok-Refused.field-0-is at c.in-Ok-Refused.ensures.asked)) s stayed

-- the end, where no local step was taken
pub returns-in-Answered-clause-alone : goal.returns-in-Answered-clause-alone
returns-in-Answered-clause-alone g c s before =
    let x = process_view c.args.process.now in
    let w = process_view c.local_steps-taken.new.process in
    let y = process_view c.end_process.new.process in
    let same = local_none x w c.local_steps-taken.result.0 c.local_steps-taken.ensures.local (omega arith) in
    let stayed = c.reserve.ensures.alone s w (subst (λ (p : Process). IsLocalRun s c.args.log.now.trace p) (sym same) before) in
    c.add_call.ensures.alone w y (told_end w y c.in-Stopped-End.how c.in-Answered.reply (search rules) c.end_process.ensures.ended) s stayed
