-- What a worker does with its process, as a trace tells it.
use Rattle.std.proofs.Common.{◌≡◌, refl, ap, rules}
use Rattle.lc3_machine.specs.Process.{Process as Machine}
use Rattle.lc3_machine.specs.declared.want.How.{How}
use Rattle.lc3_machine.specs.declared.want.Want.TheVariants.{End}
use Rattle.ipc_kernel.specs.declared.call.Call.{Call}
use Rattle.ipc_kernel.specs.declared.call.Call.TheVariants.{Exit}
use Rattle.ipc_kernel.specs.declared.call.Reply.{Reply}
use Rattle.ipc_kernel.specs.declared.call.Answer.TheVariants.{Done, Wait}
use Rattle.ipc_traps.specs.Asked.{Calls, Ends, next_request}
use Rattle.ipc_traps.proofs.Laws.{asked_end}
use Rattle.lab_sched.specs.LocalRun.{AreLocal, TakesAnswer}
use Rattle.lab_sched.specs.Held.{process_view}
use Rattle.lab_sched.specs.Stepping.{IsAsked, MayWait, StandsBefore, after_end, after_reply}
use Rattle.lab_sched.specs.Worlds.{Process, Running, Waiting, Ended, machine_of, next_action, action_for, process_after_answer, process_after_reply_to}
use Rattle.lab_sched.specs.declared.process.Process.{Process as Kept}
use Rattle.lab_sched.specs.declared.process.Process.TheVariants as kept
use Rattle.ipc_names.specs.declared.errno.Errno.{Errno}
use Rattle.ipc_traps.specs.declared.Asked.TheVariants.{Refused}

-- a refusal without the kernel is a local step
pub refused : (s u : Process) (e : Errno) → IsAsked s (Refused e) u → AreLocal 1 s u
refused x u e h = search rules

asks_for : (m : Machine) (c : Call) → next_request m ≡ Calls c → TakesAnswer (Running m) c Wait (Waiting m c)
unfolding next_action process_after_answer
asks_for m c asks = (ap (action_for m) asks, refl)

answered : (m : Machine) (c : Call) (r : Reply) → next_request m ≡ Calls c → TakesAnswer (Running m) c (Done r) (process_after_answer m c (Done r))
unfolding next_action
answered m c r asks = (ap (action_for m) asks, refl)

-- the first try of a call that must wait
pub told_wait : (x : Kept) (u : Process) (c : Call) → MayWait x c → u ≡ Waiting (machine_of (process_view x)) c → TakesAnswer (process_view x) c Wait u
told_wait x u c may is = search (rules, asks_for)

-- the first try of a call that is answered
pub told_first : (x : Kept) (u : Process) (c : Call) (r : Reply) → MayWait x c → u ≡ after_reply (process_view x) r → TakesAnswer (process_view x) c (Done r) u
unfolding process_after_answer
told_first (kept.Running h) u c r may is = rw is (answered h.process c r may.0)
told_first (kept.Waiting h d) u c r may is = absurd may
told_first (kept.Ended e) u c r may is = absurd may

-- the reply to a call that waited
pub told_later : (x : Kept) (u : Process) (c : Call) (r : Reply) → MayWait x c → u ≡ after_reply (process_view x) r → TakesAnswer (Waiting (machine_of (process_view x)) c) c (Done r) u
unfolding process_after_answer
told_later (kept.Running h) u c r may is = rw is (refl, refl)
told_later (kept.Waiting h d) u c r may is = absurd may
told_later (kept.Ended e) u c r may is = absurd may

-- the end
pub told_end : (s u : Process) (how : How) (r : Reply) → StandsBefore s (End how) → u ≡ after_end s how → TakesAnswer s Exit (Done r) u
unfolding next_action process_after_answer
told_end (Running m) u how r stands is =
    let asks : next_request m ≡ Ends how = asked_end m how stands in
    rw is (ap (action_for m) asks, ap (λ q. process_after_reply_to m q r) asks)
told_end (Waiting m c) u how r stands is = absurd stands
told_end (Ended e) u how r stands is = absurd stands
