use Rattle.std.proofs.Common.{refl, sym, subst, rules}
use Rattle.ipc_kernel.specs.declared.call.Call.{Call}
use Rattle.ipc_kernel.specs.declared.call.Answer.TheVariants.{Wait}
use Rattle.lab_sched.specs.Held.{process_view}
use Rattle.lab_sched.specs.LocalRun.{TakesAnswer}
use Rattle.lab_sched.specs.Worlds.{Process, Waiting, machine_of}
use Rattle.lab_threads.proofs.WorkerSteps.{told_wait, told_first, told_later}
use Rattle.lab_threads.proofs.spawning.make_call.Goals as goal

pub returns-then-fits-clause-alone : goal.returns-then-fits-clause-alone
returns-then-fits-clause-alone g c s before =
    let p = c.args.process.now in
    let u = process_view c.begin_wait.new.process in
    let told = told_wait p u c.args.call c.requires.may c.begin_wait.ensures.waits in
    c.add_call.ensures.alone (process_view p) u (subst (λ (d : Call). TakesAnswer (process_view p) d Wait u) (sym c.in-Ok.ensures.equal) told) s before

pub returns-else-fits-clause-alone : goal.returns-else-fits-clause-alone
returns-else-fits-clause-alone g c s before =
    let p = c.args.process.now in
    let u = process_view c.begin_wait.new.process in
    let told = told_wait p u c.args.call c.requires.may c.begin_wait.ensures.waits in
    c.add_call.ensures.alone (process_view p) u (subst (λ (d : Call). TakesAnswer (process_view p) d Wait u) (sym c.in-Ok.ensures.equal) told) s before

pub returns-in-Answered-clause-alone : goal.returns-in-Answered-clause-alone
returns-in-Answered-clause-alone g c s before = search (rules, told_first, c.args.process.now, c.answer_call.new.process, c.add_call-in-Answered.ensures.alone, c.args.call, c.in-Answered.reply, c.requires.may, c.answer_call.ensures.told)

pub returns-in-AnsweredAfterWait-clause-alone : goal.returns-in-AnsweredAfterWait-clause-alone
returns-in-AnsweredAfterWait-clause-alone g c s before =
    let p = c.args.process.now in
    let w : Process = Waiting (machine_of (process_view p)) c.args.call in
    let u = process_view c.answer_call-in-AnsweredAfterWait.new.process in
    let told = told_wait p w c.args.call c.requires.may refl in
    let waited = c.add_call-in-AnsweredAfterWait.ensures.alone (process_view p) w (subst (λ (d : Call). TakesAnswer (process_view p) d Wait w) (sym c.in-Ok.ensures.equal) told) s before in
    c.add_call-in-AnsweredAfterWait-2.ensures.alone w u (told_later p u c.args.call c.in-AnsweredAfterWait.reply c.requires.may c.answer_call-in-AnsweredAfterWait.ensures.told) s waited
