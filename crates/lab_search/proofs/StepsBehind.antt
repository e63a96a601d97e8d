-- A step doesn't read what its process has written: what a process writes stands behind that.
use Rattle.std.proofs.Common.{◌≡◌, ℕ, zero, suc, Bool, true, false, List, ◌++◌, Option, Some, None, Result, Ok, Err, refl, sym, ap, subst, ◌∙◌, ◌-◌, ◌==◌, ◌&&◌, ◌||◌, slice_get, slice_index}
use Rattle.std.specs.Option.{option_map}
use Rattle.lc3_machine.specs.declared.want.Want.TheVariants.{Trap, End}
use Rattle.lc3_machine.specs.Process.{Process as Machine, Held, Outcome, GoesOn as ByItself, Stops, reg}
use Rattle.lc3_machine.specs.Effects.{next_step}
use Rattle.lc3_machine.proofs.Outputs.{behind as machine_behind, outcome_behind, step_behind, end_behind}
use Rattle.ipc_kernel.specs.Kernel.{KernelState, IsSettled}
use Rattle.ipc_kernel.specs.Answer.{answer}
use Rattle.ipc_kernel.specs.declared.call.Call.{Call}
use Rattle.ipc_kernel.specs.declared.call.Call.TheVariants as call
use Rattle.ipc_kernel.specs.declared.call.Reply.{Reply}
use Rattle.ipc_kernel.specs.declared.call.Reply.TheVariants as reply
use Rattle.ipc_kernel.specs.declared.call.Answer.{Answer}
use Rattle.ipc_kernel.specs.declared.call.Answer.TheVariants.{Done, Wait}
use Rattle.ipc_names.specs.declared.errno.Errno.{Errno}
use Rattle.ipc_names.specs.Errno.{number_of}
use Rattle.ipc_traps.specs.declared.service.Service.{Service}
use Rattle.ipc_traps.specs.declared.service.Service.TheVariants as service
use Rattle.ipc_traps.specs.Services.{service_in}
use Rattle.ipc_traps.specs.Names.{is_in_memory, words_at}
use Rattle.ipc_traps.specs.Asked.{Request, Local, Refuses, Calls, Ends, name_at, request_within, request_for_name, service_request, trap_request, outcome_request, next_request}
use Rattle.ipc_traps.specs.Reply.{service_asked, four_words_address, after_call, process_after_trap_reply, process_after_reply, HasRoomFor, CanReply, IsPrepared}
use Rattle.lc3_machine.specs.Reply.{IsWritableIf, with_words_if}
use Rattle.lab_sched.specs.declared.process.Process.{Process as Kept}
use Rattle.lab_sched.specs.declared.process.Process.TheVariants as kept
use Rattle.lab_sched.specs.Worlds.{Process, Running, Waiting, Ended, machine_of, NextAction, moves, calls, action_for, next_action, process_after_reply_to, process_after_answer, StepEffect, nothing, local_step, kernel_step, retry, first_try, step_effect, process_after, kernel_after}
use Rattle.lab_sched.specs.Held.{process_view, IsHeld, asked_by, local_told, stepped_of, step_of}
use Rattle.lab_sched.specs.LocalRun.{IsLocalStep, AreLocal}
use Rattle.lab_worlds.specs.Calls.{IsAtCall}
use Rattle.lab_worlds.specs.Unwaiting.{GoesOn}
use Rattle.lab_worlds.specs.declared.random_walker.Attempt.{Attempt}
use Rattle.lab_worlds.specs.declared.random_walker.Attempt.TheVariants.{Still, Runs, Came}
use Rattle.lab_states.specs.declared.collapsed_states.CollapsedState.{CollapsedState}
use Rattle.lab_search.specs.declared.store.Store.{Store}
use Rattle.lab_states.specs.CollapsedStates.{behind, kept_behind, whole_of}
use Rattle.lab_search.specs.declared.store.Mover.{Mover}
use Rattle.lab_search.specs.declared.reduced.KeptAttempt.{KeptAttempt}
use Rattle.lab_search.specs.Private.Stored.{IsKeptStep, IsKeptAttempt, output_at}
use Rattle.lab_search.specs.Stored.{IsState, IsExactly, IsStore}
use Rattle.lab_worlds.specs.Stepped.{IsReady, IsReached, IsStepped}
use Rattle.lab_worlds.specs.declared.errors.Errors.{Errors}
use Rattle.lab_worlds.specs.Errors.{HasErrorAmong, IsLocalStepAmong, AreLocalAmong, IsAnswered}
use Rattle.lc3_machine.proofs.Runs.{steps_map}
use Rattle.lab_worlds.proofs.Pushes.{all_at}
use Rattle.lab_states.proofs.SilentProcesses.{same_trap, seen_output}

-- what a process asks for that has written more before
abbrev request_behind : List ℕ → Request → Request
request_behind o (Local q) = Local (machine_behind o q)
request_behind o (Refuses e) = Refuses e
request_behind o (Calls c) = Calls c
request_behind o (Ends how) = Ends how

-- no call of the kernel is a local step
same_within : (b : Bool) (r : Request) (o : List ℕ) → request_behind o r ≡ r → request_behind o (request_within b r) ≡ request_within b r
same_within true r o e = e
same_within false r o e = refl

same_named : (call : List ℕ → Call) (n : Result (List ℕ) Errno) (o : List ℕ) → request_behind o (request_for_name call n) ≡ request_for_name call n
same_named call (Err e) o = refl
same_named call (Ok name) o = refl

same_service : (s : Service) (p : Machine) (o : List ℕ) → request_behind o (service_request s p) ≡ service_request s p
same_service service.MqOpen p o = same_within _ _ o (same_named _ (name_at p) o)
same_service service.MqClose p o = refl
same_service service.MqUnlink p o = same_named _ (name_at p) o
same_service service.MqSend p o = same_within (is_in_memory (reg p 1) (reg p 2)) (Calls (call.MqSend (reg p 0) (words_at p.memory (reg p 1) (reg p 2)) (reg p 3))) o refl
same_service service.MqReceive p o = same_within (is_in_memory (reg p 1) (reg p 2) && ((reg p 3 == 0) || is_in_memory (reg p 3) 1)) (Calls (call.MqReceive (reg p 0) (reg p 2))) o refl
same_service service.MqGetattr p o = same_within (is_in_memory (reg p 1) 4) (Calls (call.MqGetattr (reg p 0))) o refl
same_service service.MqSetattr p o = same_within (is_in_memory (reg p 1) 4 && ((reg p 2 == 0) || is_in_memory (reg p 2) 4)) (Calls (call.MqSetattr (reg p 0) (slice_index p.memory (reg p 1)))) o refl
same_service service.SemOpen p o = same_named _ (name_at p) o
same_service service.SemClose p o = refl
same_service service.SemUnlink p o = same_named _ (name_at p) o
same_service service.SemWait p o = refl
same_service service.SemTrywait p o = refl
same_service service.SemPost p o = refl
same_service service.SemGetvalue p o = same_within (is_in_memory (reg p 1) 1) (Calls (call.SemGetvalue (reg p 0))) o refl

same_request : (s : Option Service) (p : Machine) (o : List ℕ) → request_behind o (trap_request s p) ≡ trap_request s p
same_request None p o = refl
same_request (Some s) p o = same_service s p o

outcome_asked : (x : Outcome) (p : Machine) (o : List ℕ) → outcome_request (machine_behind o p) (outcome_behind o x) ≡ request_behind o (outcome_request p x)
outcome_asked (ByItself q) p o = refl
outcome_asked (Stops (Trap v)) p o = same_trap (service_in v) p (o ++ p.output) ∙ sym (same_request (service_in v) p o)
outcome_asked (Stops (End how)) p o = refl

asked_behind : (p : Machine) (o : List ℕ) → next_request (machine_behind o p) ≡ request_behind o (next_request p)
unfolding next_request
asked_behind p o = ap (outcome_request (machine_behind o p)) (step_behind p o) ∙ outcome_asked (next_step p) p o

outcome_service : (x : Outcome) (o : List ℕ) → service_asked (outcome_behind o x) ≡ service_asked x
outcome_service (ByItself q) o = refl
outcome_service _ o = refl

service_behind : (p : Machine) (o : List ℕ) → service_asked (next_step (machine_behind o p)) ≡ service_asked (next_step p)
service_behind p o = ap service_asked (step_behind p o) ∙ outcome_service (next_step p) o

-- where attributes are written
four_same : (s : Option Service) (p : Machine) (o : List ℕ) → four_words_address s (machine_behind o p) ≡ four_words_address s p
four_same None p o = refl
four_same (Some service.MqOpen) p o = refl
four_same _ p o = refl

trap_replied : (s : Option Service) (p : Machine) (r : Reply) (o : List ℕ) → process_after_trap_reply s (machine_behind o p) r ≡ machine_behind o (process_after_trap_reply s p r)
trap_replied s p (reply.Attr words) o = ap (λ a. after_call (machine_behind o p) 0 (with_words_if p.memory a words)) (four_same s p o)
trap_replied s p _ o = refl

replied_behind : (p : Machine) (r : Reply) (o : List ℕ) → process_after_reply (machine_behind o p) r ≡ machine_behind o (process_after_reply p r)
unfolding process_after_reply
replied_behind p r o = ap (λ s. process_after_trap_reply s (machine_behind o p) r) (service_behind p o) ∙ trap_replied (service_asked (next_step p)) p r o

-- what such a process does next
abbrev action_behind : List ℕ → NextAction → NextAction
action_behind o (moves q) = moves (machine_behind o q)
action_behind o (calls c) = calls c

action_for_behind : (r : Request) (p : Machine) (o : List ℕ) → action_for (machine_behind o p) (request_behind o r) ≡ action_behind o (action_for p r)
action_for_behind (Refuses e) p o = ap moves (replied_behind p (reply.Plain (65536 - number_of e)) o)
action_for_behind _ p o = refl

acts_behind : (p : Machine) (o : List ℕ) → next_action (machine_behind o p) ≡ action_behind o (next_action p)
unfolding next_action
acts_behind p o = ap (action_for (machine_behind o p)) (asked_behind p o) ∙ action_for_behind (next_request p) p o

-- the process after the answer to its call
reply_to_behind : (q : Request) (m : Machine) (r : Reply) (o : List ℕ) → process_after_reply_to (machine_behind o m) (request_behind o q) r ≡ behind o (process_after_reply_to m q r)
reply_to_behind (Ends how) m r o = ap (λ p. Ended (record { process = p; how = how })) (end_behind how m o)
reply_to_behind _ m r o = ap Running (replied_behind m r o)

answered_behind : (a : Answer) (m : Machine) (c : Call) (o : List ℕ) → process_after_answer (machine_behind o m) c a ≡ behind o (process_after_answer m c a)
unfolding process_after_answer
answered_behind Wait m c o = refl
answered_behind (Done r) m c o = ap (λ q. process_after_reply_to (machine_behind o m) q r) (asked_behind m o) ∙ reply_to_behind (next_request m) m r o

-- the step of such a process
abbrev effect_behind : List ℕ → StepEffect → StepEffect
effect_behind o nothing = nothing
effect_behind o (local_step n) = local_step (machine_behind o n)
effect_behind o (kernel_step m c a) = kernel_step (machine_behind o m) c a

tries_behind : (x : NextAction) (k : KernelState) (p : ℕ) (m : Machine) (o : List ℕ) → first_try k p (machine_behind o m) (action_behind o x) ≡ effect_behind o (first_try k p m x)
tries_behind (moves q) k p m o = refl
tries_behind (calls c) k p m o = refl

retries_behind : (a : Answer) (m : Machine) (c : Call) (o : List ℕ) → retry (machine_behind o m) c a ≡ effect_behind o (retry m c a)
retries_behind Wait m c o = refl
retries_behind (Done r) m c o = refl

same_step : (k : KernelState) (p : ℕ) (s : Process) (o : List ℕ) → step_effect k p (Some (behind o s)) ≡ effect_behind o (step_effect k p (Some s))
same_step k p (Running m) o = ap (first_try k p (machine_behind o m)) (acts_behind m o) ∙ tries_behind (next_action m) k p m o
same_step k p (Waiting m c) o = retries_behind (answer k p c).0 m c o
same_step k p (Ended e) o = refl

goes_same : (t : StepEffect) (o : List ℕ) → GoesOn (effect_behind o t) ≡ GoesOn t
goes_same (kernel_step m c Wait) o = refl
goes_same _ o = refl

same_goes : (k : KernelState) (p : ℕ) (s : Process) (o : List ℕ) → GoesOn (step_effect k p (Some (behind o s))) ≡ GoesOn (step_effect k p (Some s))
same_goes k p s o = ap GoesOn (same_step k p s o) ∙ goes_same (step_effect k p (Some s)) o

same_kernel : (k : KernelState) (p : ℕ) (t : StepEffect) (o : List ℕ) → kernel_after k p (effect_behind o t) ≡ kernel_after k p t
same_kernel k p nothing o = refl
same_kernel k p _ o = refl

same_process : (s : Process) (t : StepEffect) (o : List ℕ) → process_after (behind o s) (effect_behind o t) ≡ behind o (process_after s t)
same_process s (kernel_step m c a) o = answered_behind a m c o
same_process s _ o = refl

kernel_behind : (k : KernelState) (p : ℕ) (s : Process) (o : List ℕ) → (step_of k p (behind o s)).kernel ≡ (step_of k p s).kernel
kernel_behind k p s o = ap (kernel_after k p) (same_step k p s o) ∙ same_kernel k p (step_effect k p (Some s)) o

process_behind : (k : KernelState) (p : ℕ) (s : Process) (o : List ℕ) → (step_of k p (behind o s)).process ≡ behind o (step_of k p s).process
process_behind k p s o = ap (process_after (behind o s)) (same_step k p s o) ∙ same_process s (step_effect k p (Some s)) o

-- its local steps
local_behind : (s u : Process) (o : List ℕ) → IsLocalStep s u → IsLocalStep (behind o s) (behind o u)
local_behind (Running m) u o h = (machine_behind o h.0, acts_behind m o ∙ ap (action_behind o) h.1, ap (behind o) h.2)
local_behind _ u o h = h

locals_behind : (n : ℕ) (s u : Process) (o : List ℕ) → AreLocal n s u → AreLocal n (behind o s) (behind o u)
locals_behind zero s u o h = ap (behind o) h
locals_behind (suc n) s u o h = (behind o h.0, local_behind s h.0 o h.1, locals_behind n h.0 u o h.2)

at_call_behind : (s : Process) (o : List ℕ) → IsAtCall s → IsAtCall (behind o s)
at_call_behind (Running m) o h = (h.0, acts_behind m o ∙ ap (action_behind o) h.1)
at_call_behind _ o h = h

reached_behind : (s u : Process) (o : List ℕ) → IsReached s u → IsReached (behind o s) (behind o u)
reached_behind s u o h = record {
  ahead = record { taken = h.ahead.taken; local = locals_behind h.ahead.taken s u o h.ahead.local; at_call = at_call_behind u o h.ahead.at_call };
  few = h.few;
}

-- what is told of its steps
asked_told : (r : Request) (o : List ℕ) → local_told (Some (request_behind o r)) ≡ local_told (Some r)
asked_told (Local q) o = refl
asked_told _ o = refl

machine_seen : (s : Process) (o : List ℕ) → machine_of (behind o s) ≡ machine_behind o (machine_of s)
machine_seen (Running m) o = refl
machine_seen (Waiting m c) o = refl
machine_seen (Ended e) o = refl

same_asked : (s : Process) (o : List ℕ) → asked_by (Some (behind o s)) ≡ Some (request_behind o (next_request (machine_of s)))
same_asked s o = ap (λ m. Some (next_request m)) (machine_seen s o) ∙ ap (λ r. Some r) (asked_behind (machine_of s) o)

same_local_told : (s : Process) (o : List ℕ) → local_told (asked_by (Some (behind o s))) ≡ local_told (asked_by (Some s))
same_local_told s o = ap local_told (same_asked s o) ∙ asked_told (next_request (machine_of s)) o

effect_told : (r : Request) (t : StepEffect) (o : List ℕ) → stepped_of (Some (request_behind o r)) (effect_behind o t) ≡ stepped_of (Some r) t
effect_told r nothing o = refl
effect_told r (local_step n) o = asked_told r o
effect_told r (kernel_step m c Wait) o = refl
effect_told r (kernel_step m c (Done a)) o = refl

told_behind : (k : KernelState) (p : ℕ) (s : Process) (o : List ℕ) → (step_of k p (behind o s)).told ≡ (step_of k p s).told
told_behind k p s o =
    ap (λ q. stepped_of q (step_effect k p (Some (behind o s)))) (same_asked s o) ∙ ap (λ t. stepped_of (Some (request_behind o (next_request (machine_of s)))) t) (same_step k p s o)
    ∙ effect_told (next_request (machine_of s)) (step_effect k p (Some s)) o

-- and so are the errors of its steps
among_behind : (es : Errors) (n : ℕ) (s u : Process) (o : List ℕ) → AreLocalAmong es n s u → AreLocalAmong es n (behind o s) (behind o u)
among_behind es n s u o h =
    steps_map (IsLocalStepAmong es) (IsLocalStepAmong es) (behind o) (λ x y step. (local_behind x y o step.0, subst (HasErrorAmong es) (sym (same_local_told x o)) step.1)) n s u h

answered_same : (k : KernelState) (p : ℕ) (s : Process) (n : ℕ) (es : Errors) (u : Process) (o : List ℕ) → IsAnswered k p s n es u → IsAnswered k p (behind o s) n es (behind o u)
answered_same k p s n es u o h = record {
  step = subst (HasErrorAmong es) (sym (told_behind k p s o)) h.step;
  after = subst (λ x. AreLocalAmong es n x (behind o u)) (sym (process_behind k p s o)) (among_behind es n (step_of k p s).process u o h.after);
}

-- the same pages are ready
abbrev held_behind : List ℕ → Held → Held
held_behind o h = record { process = machine_behind o h.process; ready = h.ready }

-- the replies that it can have, and the room for them
can_same : (q : Request) (r : Reply) (o : List ℕ) → CanReply (request_behind o q) r ≡ CanReply q r
can_same (Local n) r o = refl
can_same _ r o = refl

room_same : (s : Option Service) (h : Held) (r : Reply) (o : List ℕ) → HasRoomFor s (held_behind o h) r ≡ HasRoomFor s h r
room_same s h (reply.Attr words) o = ap (λ a. IsWritableIf h.ready a 4) (four_same s h.process o)
room_same s h _ o = refl

can_behind : (h : Held) (o : List ℕ) (r : Reply) → CanReply (next_request (machine_behind o h.process)) r ≡ CanReply (next_request h.process) r
can_behind h o r = ap (λ q. CanReply q r) (asked_behind h.process o) ∙ can_same (next_request h.process) r o

room_behind : (h : Held) (o : List ℕ) (r : Reply) → HasRoomFor (service_asked (next_step (machine_behind o h.process))) (held_behind o h) r ≡ HasRoomFor (service_asked (next_step h.process)) h r
room_behind h o r = ap (λ s. HasRoomFor s (held_behind o h) r) (service_behind h.process o) ∙ room_same (service_asked (next_step h.process)) h r o

prepared_behind : (h : Held) (o : List ℕ) → IsPrepared h → IsPrepared (held_behind o h)
unfolding IsPrepared
prepared_behind h o prepared r can = subst (λ X. X) (sym (room_behind h o r)) (prepared r (subst (λ X. X) (can_behind h o r) can))

was_prepared : (h : Held) (o : List ℕ) → IsPrepared (held_behind o h) → IsPrepared h
unfolding IsPrepared
was_prepared h o prepared r can = subst (λ X. X) (room_behind h o r) (prepared r (subst (λ X. X) (sym (can_behind h o r)) can))

asks_for : (q : Request) (c : Call) (o : List ℕ) → request_behind o q ≡ Calls c → q ≡ Calls c
asks_for (Local n) c o e = absurd (cc)
asks_for _ c o e = e

ready_held : (k : Kept) (o : List ℕ) → IsHeld k → IsHeld (kept_behind o k)
ready_held (kept.Waiting h c) o held = (asked_behind h.process o ∙ ap (request_behind o) held.0, prepared_behind h o held.1)
ready_held _ o held = held

pub was_held : (k : Kept) (o : List ℕ) → IsHeld (kept_behind o k) → IsHeld k
was_held (kept.Waiting h c) o held = (asks_for (next_request h.process) c o (sym (asked_behind h.process o) ∙ held.0), was_prepared h o held.1)
was_held _ o held = held

-- as it is seen
pub seen_behind : (k : Kept) (o : List ℕ) → process_view (kept_behind o k) ≡ behind o (process_view k)
seen_behind k o = seen_output k _

pub ready_behind : (k : Kept) (o : List ℕ) → IsReady k → IsReady (kept_behind o k)
ready_behind k o ready = (ready_held k o ready.0, subst IsAtCall (sym (seen_behind k o)) (at_call_behind (process_view k) o ready.1))

-- what came of a step of a process that has written more before
abbrev pub attempt_with : List ℕ → Attempt → Attempt
attempt_with o Still = Still
attempt_with o Runs = Runs
attempt_with o (Came made) = Came (record made { process = kept_behind o made.process })

-- it is the same, but for what was written before
stepped_behind : (k : KernelState) (p : ℕ) (s : Process) (a : Attempt) (o : List ℕ) → IsStepped k p s a → IsStepped k p (behind o s) (attempt_with o a)
stepped_behind k p s Still o h = λ goes. h (subst (λ X. X) (same_goes k p s o) goes)
stepped_behind k p s Runs o h = subst (λ X. X) (sym (same_goes k p s o)) h
stepped_behind k p s (Came made) o h = (
  h.0 ∙ sym (kernel_behind k p s o),
  ready_behind made.process o h.1,
  subst (λ x. IsReached x (process_view (kept_behind o made.process))) (sym (process_behind k p s o))
      (subst (λ x. IsReached (behind o (step_of k p s).process) x) (sym (seen_behind made.process o)) (reached_behind (step_of k p s).process (process_view made.process) o h.2)),
  subst (λ X. X) (sym (same_goes k p s o)) h.3,
  subst (λ x. IsAnswered k p (behind o s) made.taken made.errors x) (sym (seen_behind made.process o)) (answered_same k p s made.taken made.errors (process_view made.process) o h.4),
)

-- the state behind an output that is kept
state_behind : (t : Store) (i : ℕ) (s : CollapsedState) → slice_get t.states.processes i ≡ Some (whole_of t.states.outputs s) → IsState t i (behind (output_at t s.before) (process_view s.process))
state_behind t i s at = ap (option_map process_view) at ∙ ap (λ x. Some x) (seen_behind s.process (output_at t s.before))

-- what comes of a step of its process
pub attempt_behind : (t u : Store) (m : Mover) (s : CollapsedState) (q : Kept) (k : KernelState) (a came : Attempt) (kept : KeptAttempt) → q ≡ s.process → IsExactly t m.kernel k → IsSettled k
    → slice_get t.states.processes m.state ≡ Some (whole_of t.states.outputs s) → IsStepped k m.pid (process_view q) a → a ≡ came
    → (IsStepped k m.pid (behind (output_at t s.before) (process_view s.process)) (attempt_with (output_at t s.before) came) → IsKeptStep u k m.pid (behind (output_at t s.before) (process_view s.process)) kept) → IsKeptAttempt t u m kept
attempt_behind t u m s q k a came kept same exactly settled whole stepped is step =
    let o = output_at t s.before in
    let tried = subst (IsStepped k m.pid (process_view s.process)) is (subst (λ x. IsStepped k m.pid (process_view x) a) same stepped) in
    (k, behind o (process_view s.process), exactly, state_behind t m.state s whole, settled, step (stepped_behind k m.pid (process_view s.process) came o tried))

pub held_apart : (t : Store) (i : ℕ) (s : CollapsedState) → IsStore t → slice_get t.states.processes i ≡ Some (whole_of t.states.outputs s) → IsHeld s.process
held_apart t i s is at = was_held s.process (output_at t s.before) (all_at IsReady t.states.processes i (whole_of t.states.outputs s) is.states at).0
