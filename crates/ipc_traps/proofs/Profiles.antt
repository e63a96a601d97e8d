-- A process keeps its profile, whatever it asks and whatever is replied.
use Rattle.std.proofs.Common.{◌≡◌, ℕ, Bool, true, false, List, Option, Some, None, Result, Ok, Err, refl}
use Rattle.lc3_machine.specs.declared.want.Want.TheVariants.{Trap, End}
use Rattle.lc3_machine.specs.Process.{Process, Outcome, GoesOn, Stops, reg}
use Rattle.lc3_machine.specs.Effects.{next_step}
use Rattle.lc3_machine.proofs.Profiles.{next_profile}
use Rattle.ipc_names.specs.declared.errno.Errno.{Errno}
use Rattle.ipc_kernel.specs.declared.call.Call.{Call}
use Rattle.ipc_kernel.specs.declared.call.Call.TheVariants.{MqUnlink, SemOpen, SemUnlink}
use Rattle.ipc_kernel.specs.declared.call.Reply.{Reply}
use Rattle.ipc_kernel.specs.declared.call.Reply.TheVariants.{Plain, Message, Attr, Value}
use Rattle.ipc_traps.specs.declared.service.Service.{Service}
use Rattle.ipc_traps.specs.declared.service.Service.TheVariants as service
use Rattle.ipc_traps.specs.Services.{service_in}
use Rattle.ipc_traps.specs.Asked.{Request, Local, Refuses, Calls, Ends, next_request, outcome_request, service_request, trap_request, request_within, request_for_name, name_at}
use Rattle.ipc_traps.specs.Reply.{process_after_reply, process_after_trap_reply, service_asked}

-- the process after a local step has the profile of the one before
unfoldable pub Keeps : Process → Request → Type 0
Keeps p (Local q) = q.profile ≡ p.profile
Keeps p (Refuses e) = Unit {0}
Keeps p (Calls call) = Unit {0}
Keeps p (Ends how) = Unit {0}

keeps-named : (p : Process) (call : List ℕ → Call) (read : Result (List ℕ) Errno) → Keeps p (request_for_name call read)
unfolding Keeps
keeps-named p call (Err e) = tt
keeps-named p call (Ok name) = tt

keeps-within : (p : Process) (inside : Bool) (request : Request) → Keeps p request → Keeps p (request_within inside request)
unfolding Keeps
keeps-within p true request h = h
keeps-within p false request h = tt

keeps-call : (p : Process) (call : Call) → Keeps p (Calls call)
unfolding Keeps
keeps-call p call = tt

-- a trap is no local step
keeps-service : (s : Service) (p : Process) → Keeps p (service_request s p)
keeps-service service.MqOpen p = keeps-within p _ _ (keeps-named p _ (name_at p))
keeps-service service.MqClose p = keeps-call p _
keeps-service service.MqUnlink p = keeps-within p true _ (keeps-named p (λ name. MqUnlink name) (name_at p))
keeps-service service.MqSend p = keeps-within p _ _ (keeps-call p _)
keeps-service service.MqReceive p = keeps-within p _ _ (keeps-call p _)
keeps-service service.MqGetattr p = keeps-within p _ _ (keeps-call p _)
keeps-service service.MqSetattr p = keeps-within p _ _ (keeps-call p _)
keeps-service service.SemOpen p = keeps-within p true _ (keeps-named p (λ name. SemOpen name (reg p 1) (reg p 2)) (name_at p))
keeps-service service.SemClose p = keeps-call p _
keeps-service service.SemUnlink p = keeps-within p true _ (keeps-named p (λ name. SemUnlink name) (name_at p))
keeps-service service.SemWait p = keeps-call p _
keeps-service service.SemTrywait p = keeps-call p _
keeps-service service.SemPost p = keeps-call p _
keeps-service service.SemGetvalue p = keeps-within p _ _ (keeps-call p _)

keeps-trap : (asked : Option Service) (p : Process) → Keeps p (trap_request asked p)
keeps-trap (Some s) p = keeps-service s p
keeps-trap None p = keeps-call p _

keeps-outcome : (p : Process) (outcome : Outcome) → next_step p ≡ outcome → Keeps p (outcome_request p outcome)
unfolding Keeps
keeps-outcome p (GoesOn q) is = next_profile p q is
keeps-outcome p (Stops (Trap v)) is = keeps-trap (service_in v) p
keeps-outcome p (Stops (End how)) is = tt

-- a process that asks for nothing goes on with its profile
pub asked_keeps : (p : Process) → Keeps p (next_request p)
unfolding next_request
asked_keeps p = keeps-outcome p (next_step p) refl

profile-after_trap_reply : (asked : Option Service) (p : Process) (reply : Reply) → (process_after_trap_reply asked p reply).profile ≡ p.profile
profile-after_trap_reply asked p (Plain r) = refl
profile-after_trap_reply asked p (Message words prio) = refl
profile-after_trap_reply asked p (Attr words) = refl
profile-after_trap_reply asked p (Value value) = refl

-- a reply keeps the profile
pub replied_profile : (p : Process) (reply : Reply) → (process_after_reply p reply).profile ≡ p.profile
unfolding process_after_reply
replied_profile p reply = profile-after_trap_reply (service_asked (next_step p)) p reply
