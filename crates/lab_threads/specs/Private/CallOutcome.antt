-- What may come of a call that a worker makes.
use Rattle.std.specs.Prelude.{Bool, IsTrue}
use Rattle.ipc_kernel.specs.declared.call.Call.{Call}
use Rattle.ipc_kernel.specs.Replies.{IsReplyTo}
use Rattle.lab_threads.specs.declared.monitor.CallOutcome.{CallOutcome}
use Rattle.lab_threads.specs.declared.monitor.CallOutcome.TheVariants.{Rejected, NoMemory, Blocked, Answered, AnsweredAfterWait}

-- A reply is one of its call. One after a wait comes only where the worker may wait.
abbrev pub IsCallOutcome : Call → Bool → CallOutcome → Type 0
IsCallOutcome call may_wait Rejected = Unit {0}
IsCallOutcome call may_wait NoMemory = Unit {0}
IsCallOutcome call may_wait (Blocked fits) = Unit {0}
IsCallOutcome call may_wait (Answered reply) = IsReplyTo call reply
IsCallOutcome call may_wait (AnsweredAfterWait reply) = IsTrue may_wait × IsReplyTo call reply
