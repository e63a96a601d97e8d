-- What a process does next, and how it stands, doesn't depend on its output.
use Rattle.std.proofs.Common.{◌≡◌, ℕ, ◌&&◌, nat_le, List, [], Option, Some, None, is_some, refl, sym, ap, subst, ◌∙◌, map, slice_get}
use Rattle.std.specs.Option.{option_map}
use Rattle.std.proofs.lemmas.Option.{slice_get-map}
use Rattle.lc3_machine.specs.declared.want.Want.{Want}
use Rattle.lc3_machine.specs.declared.want.Want.TheVariants.{Trap, End}
use Rattle.lc3_machine.specs.Process.{Process as Machine, Outcome, GoesOn, Stops, with_whole_output}
use Rattle.lc3_machine.specs.Effects.{next_step}
use Rattle.lc3_machine.proofs.Outputs.{want_of, same_want}
use Rattle.ipc_kernel.specs.declared.call.Call.{Call}
use Rattle.ipc_kernel.specs.Kernel.{KernelState}
use Rattle.ipc_store.proofs.Alikes.{alike_itself}
use Rattle.ipc_traps.specs.declared.service.Service.{Service}
use Rattle.ipc_traps.specs.declared.service.Service.TheVariants as service
use Rattle.ipc_traps.specs.Services.{service_in}
use Rattle.ipc_traps.specs.Asked.{Request, Local, Refuses, Calls, Ends, name_at, service_request, trap_request, outcome_request, next_request}
use Rattle.lab_sched.specs.declared.process.Process.{Process as Kept}
use Rattle.lab_sched.specs.declared.process.Process.TheVariants as kept
use Rattle.lab_sched.specs.Worlds.{Process, Running, Waiting, Ended, NextAction, moves, calls, action_for, next_action, machine_of}
use Rattle.lab_sched.specs.Verdicts.{HasEnded}
use Rattle.lab_sched.specs.Held.{process_view}
use Rattle.lab_sched.specs.Outputs.{with_output, kept_with_output}
use Rattle.lab_conditions.specs.declared.condition.State.{State}
use Rattle.lab_conditions.specs.declared.condition.State.TheVariants as state
use Rattle.lab_conditions.specs.declared.condition.Condition.{Condition}
use Rattle.lab_conditions.specs.Conditions.{must_wait, option_any, call_next, call_of, is_so, StandsAt, Holds, world_of}
use Rattle.lab_conditions.specs.Losses.{is_receiving}
use Rattle.ipc_kernel.specs.Answer.{is_receive}
use Rattle.lab_conditions.proofs.CarriedConditions.{carried}
use Rattle.lab_states.specs.CollapsedStates.{silent}

-- a service is asked for the same
same_service : (s : Service) (p : Machine) (o : List ℕ) → service_request s (with_whole_output p o) ≡ service_request s p
unfolding name_at
same_service service.MqOpen p o = refl
same_service service.MqClose p o = refl
same_service service.MqUnlink p o = refl
same_service service.MqSend p o = refl
same_service service.MqReceive p o = refl
same_service service.MqGetattr p o = refl
same_service service.MqSetattr p o = refl
same_service service.SemOpen p o = refl
same_service service.SemClose p o = refl
same_service service.SemUnlink p o = refl
same_service service.SemWait p o = refl
same_service service.SemTrywait p o = refl
same_service service.SemPost p o = refl
same_service service.SemGetvalue p o = refl

pub same_trap : (s : Option Service) (p : Machine) (o : List ℕ) → trap_request s (with_whole_output p o) ≡ trap_request s p
same_trap None p o = refl
same_trap (Some s) p o = same_service s p o

-- the call that a request is
abbrev pub call_in : Machine → Request → Option Call
call_in p r = call_next (action_for p r)

same_request : (r : Request) (p : Machine) (o : List ℕ) → call_in (with_whole_output p o) r ≡ call_in p r
same_request (Local q) p o = refl
same_request (Refuses e) p o = refl
same_request (Calls c) p o = refl
same_request (Ends how) p o = refl

same_stop : (w : Want) (p : Machine) (o : List ℕ) → call_in (with_whole_output p o) (outcome_request (with_whole_output p o) (Stops w)) ≡ call_in p (outcome_request p (Stops w))
same_stop (Trap v) p o = ap (call_in (with_whole_output p o)) (same_trap (service_in v) p o) ∙ same_request (trap_request (service_in v) p) p o
same_stop (End how) p o = refl

same_outcome : (x y : Outcome) (p : Machine) (o : List ℕ) → want_of x ≡ want_of y → call_in (with_whole_output p o) (outcome_request (with_whole_output p o) x) ≡ call_in p (outcome_request p y)
same_outcome (GoesOn q) (GoesOn r) p o e = refl
same_outcome (GoesOn q) (Stops w) p o e = absurd (cc)
same_outcome (Stops v) (GoesOn r) p o e = absurd (cc)
same_outcome (Stops v) (Stops w) p o e =
    let same : v ≡ w = cc in
    subst (λ u. call_in (with_whole_output p o) (outcome_request (with_whole_output p o) (Stops v)) ≡ call_in p (outcome_request p (Stops u))) same (same_stop v p o)

same_next : (p : Machine) (o : List ℕ) → call_next (next_action (with_whole_output p o)) ≡ call_next (next_action p)
unfolding next_action next_request
same_next p o = same_outcome (next_step (with_whole_output p o)) (next_step p) p o (same_want p o)

-- the call at which a process stands
pub same_call : (s : Process) (o : List ℕ) → call_of (with_output s o) ≡ call_of s
same_call (Running m) o = same_next m o
same_call (Waiting m c) o = refl
same_call (Ended e) o = refl

pub calls_next : (a : NextAction) (c : Call) → call_next a ≡ Some c → a ≡ calls c
calls_next (moves q) c e = absurd (cc)
calls_next (calls d) c e = let same : d ≡ c = cc in ap calls same

pub stands_same : (s : Process) (o : List ℕ) (c : Call) → StandsAt s c → StandsAt (with_output s o) c
stands_same (Running m) o c stands = calls_next (next_action (with_whole_output m o)) c (same_next m o ∙ ap call_next stands)
stands_same (Waiting m d) o c stands = stands
stands_same (Ended e) o c stands = stands

pub ended_same : (s : Process) (o : List ℕ) → HasEnded s → HasEnded (with_output s o)
ended_same (Running m) o ended = ended
ended_same (Waiting m c) o ended = ended
ended_same (Ended e) o ended = ended

-- a process with another output, as it is seen
pub seen_output : (k : Kept) (o : List ℕ) → process_view (kept_with_output k o) ≡ with_output (process_view k) o
seen_output (kept.Running m) o = refl
seen_output (kept.Waiting h c) o = refl
seen_output (kept.Ended e) o = refl

-- the output that a process has
pub own_output : (k : Kept) → kept_with_output k (machine_of (process_view k)).output ≡ k
own_output (kept.Running m) = refl
own_output (kept.Waiting h c) = refl
own_output (kept.Ended e) = refl

-- the last output that is put into a process
pub last_output : (k : Kept) (o q : List ℕ) → kept_with_output (kept_with_output k o) q ≡ kept_with_output k q
last_output (kept.Running m) o q = refl
last_output (kept.Waiting h c) o q = refl
last_output (kept.Ended e) o q = refl

pub put_output : (k : Kept) (o : List ℕ) → (machine_of (process_view (kept_with_output k o))).output ≡ o
put_output (kept.Running m) o = refl
put_output (kept.Waiting h c) o = refl
put_output (kept.Ended e) o = refl

pub silent_output : (s : Process) (o : List ℕ) → silent (with_output s o) ≡ silent s
silent_output (Running m) o = refl
silent_output (Waiting m c) o = refl
silent_output (Ended e) o = refl

so_silent : (x : State) (k : KernelState) (p : ℕ) (s : Process) → is_so x k p (silent s) ≡ is_so x k p s
so_silent state.Blocked k p s = ap (option_any (must_wait k p)) (same_call s [])
so_silent state.Ended k p (Running m) = refl
so_silent state.Ended k p (Waiting m c) = refl
so_silent state.Ended k p (Ended e) = refl
so_silent state.Crashed k p (Running m) = refl
so_silent state.Crashed k p (Waiting m c) = refl
so_silent state.Crashed k p (Ended e) = refl
so_silent (state.At first last) k p (Running m) = ap (λ o. is_some o && nat_le first m.pc && nat_le m.pc last) (same_call (Running m) [])
so_silent (state.At first last) k p (Waiting m c) = refl
so_silent (state.At first last) k p (Ended e) = refl

-- processes that are the same but for their outputs are about to do the same
pub receiving_same : (s t : Process) → silent s ≡ silent t → is_receiving s ≡ is_receiving t
receiving_same s t same = ap (option_any is_receive) (sym (same_call s []) ∙ ap call_of same ∙ same_call t [])

so_same : (x : State) (k : KernelState) (p : ℕ) (s t : Process) → silent s ≡ silent t → is_so x k p s ≡ is_so x k p t
so_same x k p s t same = sym (so_silent x k p s) ∙ ap (is_so x k p) same ∙ so_silent x k p t

-- what a function makes of what stands there
pub mapped : {A B : Type 0} (f : A → B) (o : Option A) (y : B) → option_map f o ≡ Some y → (x : A) × (o ≡ Some x) × (f x ≡ y)
mapped f None y e = absurd (cc)
mapped f (Some x) y e = (x, refl, (cc))

-- the process at a place of the one list and of the other
beside : (ps qs : List Process) (p : ℕ) (s : Process) → map silent ps ≡ map silent qs → slice_get ps p ≡ Some s → (t : Process) × (slice_get qs p ≡ Some t) × (silent t ≡ silent s)
beside ps qs p s same at =
    mapped silent (slice_get qs p) (silent s) (sym (slice_get-map silent qs p) ∙ ap (λ xs. slice_get xs p) (sym same) ∙ slice_get-map silent ps p ∙ ap (option_map silent) at)

-- what a condition says of processes, it says of those that are the same but for their outputs
pub holds_silently : (c : Condition) (k : KernelState) (ps qs : List Process) → map silent ps ≡ map silent qs → Holds c (world_of k ps) → Holds c (world_of k qs)
holds_silently c k ps qs same = carried c (world_of k ps) (world_of k qs) (record {
  kernel = alike_itself k;
  states = λ x p s at so. let t = beside ps qs p s same at in (t.0, t.1, so_same x k p t.0 s t.2 ∙ so);
})
