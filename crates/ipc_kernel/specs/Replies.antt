-- Which replies a call can have.
use Rattle.std.specs.Prelude.{◌≤◌, length}
use Rattle.ipc_objects.specs.Limits.{mq_msgsize_max}
use Rattle.ipc_kernel.specs.declared.call.Call.{Call}
use Rattle.ipc_kernel.specs.declared.call.Call.TheVariants.{MqReceive, MqGetattr, MqSetattr, SemGetvalue}
use Rattle.ipc_kernel.specs.declared.call.Answer.{Answer}
use Rattle.ipc_kernel.specs.declared.call.Answer.TheVariants.{Done, Wait}
use Rattle.ipc_kernel.specs.declared.call.Reply.{Reply}
use Rattle.ipc_kernel.specs.declared.call.Reply.TheVariants.{Plain, Message, Attr, Value}

-- a reply is a plain word or has the form of its call; a message has at most the words asked for, and at most mq_msgsize_max
abbrev pub IsReplyTo : Call → Reply → Type 0
IsReplyTo call (Plain word) = Unit {0}
IsReplyTo (MqReceive d len) (Message words prio) = (length words ≤ len) × (length words ≤ mq_msgsize_max)
IsReplyTo (MqGetattr d) (Attr words) = Unit {0}
IsReplyTo (MqSetattr d flags) (Attr words) = Unit {0}
IsReplyTo (SemGetvalue s) (Value word) = Unit {0}
IsReplyTo call reply = ⊥

-- an answer is a reply of its call, or a wait
abbrev pub IsAnswerTo : Call → Answer → Type 0
IsAnswerTo call (Done reply) = IsReplyTo call reply
IsAnswerTo call Wait = Unit {0}
