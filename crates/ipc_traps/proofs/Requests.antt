-- Requests that only a plain word answers.
use Rattle.std.proofs.Common.{◌≡◌, ℕ, Bool, true, false, List, Option, Some, None, Result, Ok, Err, refl, rules}
use Rattle.lc3_machine.specs.declared.want.Want.TheVariants.{Trap, End}
use Rattle.lc3_machine.specs.Process.{Process, Held, Outcome, GoesOn, Stops, reg}
use Rattle.lc3_machine.specs.Effects.{next_step}
use Rattle.ipc_names.specs.declared.errno.Errno.{Errno}
use Rattle.ipc_names.specs.declared.errno.Errno.TheVariants.{Fault}
use Rattle.ipc_kernel.specs.declared.call.Call.{Call}
use Rattle.ipc_kernel.specs.declared.call.Call.TheVariants.{MqUnlink, MqReceive, MqGetattr, MqSetattr, SemOpen, SemUnlink, SemGetvalue, Exit}
use Rattle.ipc_kernel.specs.declared.call.Reply.{Reply}
use Rattle.ipc_kernel.specs.declared.call.Reply.TheVariants.{Plain, Message, Attr, Value}
use Rattle.ipc_traps.specs.declared.service.Service.{Service}
use Rattle.ipc_traps.specs.declared.service.Service.TheVariants as service
use Rattle.ipc_traps.specs.Services.{service_in}
use Rattle.ipc_traps.specs.Asked.{Request, Refuses, Calls, next_request, outcome_request, trap_request, request_within, request_for_name, name_at}
use Rattle.ipc_traps.specs.Reply.{CanReply, HasRoomFor, IsPrepared, service_asked}

-- a plain word
abbrev IsPlain : Reply → Type 0
IsPlain (Plain r) = Unit {0}
IsPlain reply = ⊥

-- only a plain word answers
unfoldable OnlyPlain : Request → Type 0
OnlyPlain request = (reply : Reply) → CanReply request reply → IsPlain reply

-- whether a call is answered by more than a plain word
is_reader : Call → Bool
is_reader (MqReceive d len) = true
is_reader (MqGetattr d) = true
is_reader (MqSetattr d flags) = true
is_reader (SemGetvalue s) = true
is_reader call = false

plain-call : (call : Call) → is_reader call ≡ false → OnlyPlain (Calls call)
unfolding is_reader OnlyPlain
plain-call call is_not reply can = search rules

plain-refusal : (e : Errno) → OnlyPlain (Refuses e)
unfolding OnlyPlain
plain-refusal e reply can = search rules

plain-named : (call : List ℕ → Call) (read : Result (List ℕ) Errno) → ((name : List ℕ) → OnlyPlain (Calls (call name))) → OnlyPlain (request_for_name call read)
plain-named call (Err e) only = plain-refusal e
plain-named call (Ok name) only = only name

plain-within : (inside : Bool) (request : Request) → OnlyPlain request → OnlyPlain (request_within inside request)
plain-within true request only = only
plain-within false request only = plain-refusal Fault

-- there is room for a plain word
plain-room : (asked : Option Service) (h : Held) (reply : Reply) → IsPlain reply → HasRoomFor asked h reply
plain-room asked h (Plain r) plain = tt
plain-room asked h (Message words prio) plain = absurd plain
plain-room asked h (Attr words) plain = absurd plain
plain-room asked h (Value value) plain = absurd plain

-- whether a call is answered by more than a plain word
abbrev pub is_reader_asked : Option Service → Bool
is_reader_asked (Some service.MqReceive) = true
is_reader_asked (Some service.MqGetattr) = true
is_reader_asked (Some service.MqSetattr) = true
is_reader_asked (Some service.SemGetvalue) = true
is_reader_asked asked = false

-- only a plain word answers the calls but four
plain-trap : (asked : Option Service) (p : Process) → is_reader_asked asked ≡ false → OnlyPlain (trap_request asked p)
unfolding is_reader
plain-trap None p is_not = plain-call _ refl
plain-trap (Some service.MqOpen) p is_not = plain-within _ _ (plain-named _ (name_at p) (λ name. plain-call _ refl))
plain-trap (Some service.MqClose) p is_not = plain-call _ refl
plain-trap (Some service.MqUnlink) p is_not = plain-within true _ (plain-named (λ name. MqUnlink name) (name_at p) (λ name. plain-call _ refl))
plain-trap (Some service.MqSend) p is_not = plain-within _ _ (plain-call _ refl)
plain-trap (Some service.MqReceive) p is_not = absurd (search rules)
plain-trap (Some service.MqGetattr) p is_not = absurd (search rules)
plain-trap (Some service.MqSetattr) p is_not = absurd (search rules)
plain-trap (Some service.SemOpen) p is_not = plain-within true _ (plain-named (λ name. SemOpen name (reg p 1) (reg p 2)) (name_at p) (λ name. plain-call _ refl))
plain-trap (Some service.SemClose) p is_not = plain-call _ refl
plain-trap (Some service.SemUnlink) p is_not = plain-within true _ (plain-named (λ name. SemUnlink name) (name_at p) (λ name. plain-call _ refl))
plain-trap (Some service.SemWait) p is_not = plain-call _ refl
plain-trap (Some service.SemTrywait) p is_not = plain-call _ refl
plain-trap (Some service.SemPost) p is_not = plain-call _ refl
plain-trap (Some service.SemGetvalue) p is_not = absurd (search rules)

plain-outcome : (outcome : Outcome) (p : Process) → is_reader_asked (service_asked outcome) ≡ false → OnlyPlain (outcome_request p outcome)
unfolding OnlyPlain is_reader
plain-outcome (GoesOn q) p is_not = λ reply can. absurd can
plain-outcome (Stops (Trap v)) p is_not = plain-trap (service_in v) p is_not
plain-outcome (Stops (End how)) p is_not = plain-call Exit refl

only-reply : (request : Request) → OnlyPlain request → (reply : Reply) → CanReply request reply → IsPlain reply
unfolding OnlyPlain
only-reply request only = only

-- nothing has to be made ready for these calls
pub prepared-plain : (h : Held) → is_reader_asked (service_asked (next_step h.process)) ≡ false → IsPrepared h
unfolding IsPrepared next_request
prepared-plain h is_not =
    let only = only-reply _ (plain-outcome (next_step h.process) h.process is_not) in
    λ reply can. plain-room _ h reply (only reply can)
