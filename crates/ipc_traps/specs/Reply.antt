-- What a reply does to the process whose call it answers.
use Rattle.std.specs.Prelude.{ℕ, ◌==◌, List, [], ◌∷◌, length, Option, Some, None, if◌then◌else◌}
use Rattle.lc3_machine.specs.declared.want.Want.TheVariants.{Trap, End}
use Rattle.lc3_machine.specs.Process.{Process, Held, Outcome, GoesOn, Stops, reg, with_reg}
use Rattle.lc3_machine.specs.Console.{after_trap}
use Rattle.lc3_machine.specs.Memory.{IsWritable, with_words}
use Rattle.lc3_machine.specs.Reply.{with_words_if, IsWritableIf}
use Rattle.lc3_machine.specs.Effects.{next_step}
use Rattle.ipc_kernel.specs.declared.call.Call.TheVariants.{Exit}
use Rattle.ipc_kernel.specs.declared.call.Reply.{Reply}
use Rattle.ipc_kernel.specs.declared.call.Reply.TheVariants.{Plain, Message, Attr, Value}
use Rattle.ipc_kernel.specs.Replies.{IsReplyTo}
use Rattle.ipc_traps.specs.declared.service.Service.{Service}
use Rattle.ipc_traps.specs.declared.service.Service.TheVariants.{MqSetattr}
use Rattle.ipc_traps.specs.Services.{service_in}
use Rattle.ipc_traps.specs.Asked.{Request, Local, Refuses, Calls, Ends, next_request}

-- the call of the kernel that a process asks for by a step with this outcome
abbrev pub service_asked : Outcome → Option Service
service_asked (Stops (Trap v)) = service_in v
service_asked (Stops (End how)) = None
service_asked (GoesOn p) = None

-- an address, of which 0 stands for none
abbrev pub unless_zero : ℕ → Option ℕ
unless_zero a = if a == 0 then None else Some a

-- where a call wants the attributes of a queue written: mq_setattr at R2, if that is not 0, and mq_getattr at R1
abbrev pub four_words_address : Option Service → Process → Option ℕ
four_words_address (Some MqSetattr) p = unless_zero (reg p 2)
four_words_address other p = Some (reg p 1)

-- the process after its trap, with a result in R0 and this memory
abbrev pub after_call : Process → ℕ → List ℕ → Process
after_call p result memory = after_trap (record (with_reg p 0 result) { memory = memory })

-- the process after the reply to this call
abbrev pub process_after_trap_reply : Option Service → Process → Reply → Process
process_after_trap_reply s p (Plain r) = after_call p r p.memory
process_after_trap_reply s p (Message words prio) =
    after_call p (length words) (with_words_if (with_words p.memory (reg p 1) words) (unless_zero (reg p 3)) (prio ∷ []))
process_after_trap_reply s p (Attr words) = after_call p 0 (with_words_if p.memory (four_words_address s p) words)
process_after_trap_reply s p (Value value) = after_call p 0 (with_words p.memory (reg p 1) (value ∷ []))

-- the process after the reply to its call
unfoldable pub process_after_reply : Process → Reply → Process
process_after_reply p reply = process_after_trap_reply (service_asked (next_step p)) p reply

-- all that the reply to this call writes can be written without taking memory
abbrev pub HasRoomFor : Option Service → Held → Reply → Type 0
HasRoomFor s h (Plain r) = Unit {0}
HasRoomFor s h (Message words prio) =
    IsWritable h.ready (reg h.process 1) (length words) × IsWritableIf h.ready (unless_zero (reg h.process 3)) 1
HasRoomFor s h (Attr words) = IsWritableIf h.ready (four_words_address s h.process) 4
HasRoomFor s h (Value value) = IsWritable h.ready (reg h.process 1) 1

-- the same for the call that a process stands before
unfoldable pub HasRoom : Held → Reply → Type 0
HasRoom h reply = HasRoomFor (service_asked (next_step h.process)) h reply

-- a reply is one that what is asked can have; a refusal is a plain word
abbrev pub CanReply : Request → Reply → Type 0
CanReply (Calls call) reply = IsReplyTo call reply
CanReply (Local q) reply = ⊥
CanReply (Ends how) reply = IsReplyTo Exit reply
CanReply (Refuses e) (Plain r) = Unit {0}
CanReply (Refuses e) reply = ⊥

-- whatever the reply to what is asked by this call, there is room for what it writes
abbrev pub IsPreparedFor : Option Service → Request → Held → Type 0
IsPreparedFor s request h = (reply : Reply) → CanReply request reply → HasRoomFor s h reply

-- the same for what a process asks
unfoldable pub IsPrepared : Held → Type 0
IsPrepared h = IsPreparedFor (service_asked (next_step h.process)) (next_request h.process) h
