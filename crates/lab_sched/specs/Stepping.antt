-- A step of one process by its parts: what keeps it from a local step, what it asks, and what an answer makes of it.
use Rattle.std.specs.Prelude.{◌≡◌}
use Rattle.lc3_machine.specs.declared.want.Want.{Want}
use Rattle.lc3_machine.specs.declared.want.How.{How}
use Rattle.lc3_machine.specs.declared.machine.Progress.{Progress}
use Rattle.lc3_machine.specs.declared.machine.Progress.TheVariants as progress
use Rattle.lc3_machine.specs.Process.{Stops}
use Rattle.lc3_machine.specs.Effects.{next_step}
use Rattle.lc3_machine.specs.Reply.{process_after_end}
use Rattle.ipc_kernel.specs.declared.call.Call.{Call}
use Rattle.ipc_kernel.specs.declared.call.Reply.{Reply}
use Rattle.ipc_kernel.specs.declared.call.Answer.TheVariants.{Done}
use Rattle.ipc_kernel.specs.Replies.{IsReplyTo}
use Rattle.ipc_traps.specs.Asked.{Refuses, Calls, next_request}
use Rattle.ipc_traps.specs.declared.Asked.{Asked}
use Rattle.ipc_traps.specs.declared.Asked.TheVariants as asked_for
use Rattle.lab_sched.specs.declared.process.Process.{Process as Kept}
use Rattle.lab_sched.specs.declared.process.Process.TheVariants as kept
use Rattle.lab_sched.specs.Worlds.{Process, Running, Waiting, Ended, process_after_answer, process_after_reply_to}
use Rattle.lab_sched.specs.Held.{IsHeld}
use Rattle.lab_sched.specs.LocalRun.{IsLocalStep}

-- a running process whose next step is this trap or end
abbrev pub StandsBefore : Process → Want → Type 0
StandsBefore (Running m) want = next_step m ≡ Stops want
StandsBefore (Waiting m c) want = ⊥
StandsBefore (Ended e) want = ⊥

-- what kept a running process from its next local step; another process takes none
abbrev pub StopsBy : Process → Progress → Type 0
StopsBy (Running m) progress.Moved = ⊥
StopsBy (Running m) (progress.Stopped want) = next_step m ≡ Stops want
StopsBy (Running m) progress.Short = Unit {0}
StopsBy (Waiting m c) p = Unit {0}
StopsBy (Ended e) p = Unit {0}

-- a running process has asked by its trap, and is u: a call of the kernel, which changes nothing, or one that was refused, a local step
abbrev pub IsAsked : Process → Asked → Process → Type 0
IsAsked (Running m) (asked_for.Kernel c) u = (next_request m ≡ Calls c) × (u ≡ Running m)
IsAsked (Running m) (asked_for.Refused e) u = (next_request m ≡ Refuses e) × IsLocalStep (Running m) u
IsAsked (Waiting m c) a u = ⊥
IsAsked (Ended e) a u = ⊥

-- a running process that may wait for this call: it asks for it, and all that a reply writes is ready
abbrev pub MayWait : Kept → Call → Type 0
MayWait (kept.Running h) c = IsHeld (kept.Waiting h c)
MayWait (kept.Waiting h d) c = ⊥
MayWait (kept.Ended e) c = ⊥

-- the same for the call of what it has asked, if that is one of the kernel
abbrev pub MayWaitIfAsked : Kept → Asked → Type 0
MayWaitIfAsked s (asked_for.Kernel c) = MayWait s c
MayWaitIfAsked s (asked_for.Refused e) = Unit {0}

-- a process that asks or waits for a call with this reply
abbrev pub CanTakeReply : Kept → Reply → Type 0
CanTakeReply (kept.Running h) r = (c : Call) × MayWait (kept.Running h) c × IsReplyTo c r
CanTakeReply (kept.Waiting h c) r = IsReplyTo c r
CanTakeReply (kept.Ended e) r = ⊥

-- a process that asks or waits for a call after the reply
abbrev pub after_reply : Process → Reply → Process
after_reply (Running m) r = process_after_reply_to m (next_request m) r
after_reply (Waiting m c) r = process_after_answer m c (Done r)
after_reply (Ended e) r = Ended e

-- a waiting process before it began to wait
abbrev pub before_wait : Process → Process
before_wait (Running m) = Running m
before_wait (Waiting m c) = Running m
before_wait (Ended e) = Ended e

-- a running process after its end
abbrev pub after_end : Process → How → Process
after_end (Running m) how = Ended (record { process = process_after_end m how; how = how })
after_end (Waiting m c) how = Waiting m c
after_end (Ended e) how = Ended e
