-- Errors with which calls are refused, along the steps of a process.
use Rattle.std.proofs.Common.{ℕ, zero, suc, ◌≡◌, false, Option, Some, None, refl, sym, ap, subst, ◌∙◌, IfSome}
use Rattle.lc3_machine.specs.declared.want.How.{How}
use Rattle.lc3_machine.specs.Process.{Process as Machine, Stops}
use Rattle.lc3_machine.specs.declared.want.Want.TheVariants.{End}
use Rattle.lc3_machine.specs.Effects.{next_step}
use Rattle.lc3_machine.specs.Steps.{AreOwnSteps, IsOwnStep}
use Rattle.lc3_machine.proofs.Runs.{steps_map}
use Rattle.ipc_kernel.specs.declared.call.Call.{Call}
use Rattle.ipc_names.specs.declared.errno.Errno.{Errno}
use Rattle.ipc_names.specs.Errno.{number_of}
use Rattle.ipc_kernel.specs.declared.call.Call.TheVariants.{Exit}
use Rattle.ipc_kernel.specs.Kernel.{KernelState}
use Rattle.ipc_kernel.specs.Answer.{answer}
use Rattle.ipc_kernel.specs.declared.call.Answer.{Answer}
use Rattle.ipc_kernel.specs.declared.call.Answer.TheVariants.{Done, Wait}
use Rattle.ipc_traps.specs.Asked.{Request, Refuses, Calls, next_request}
use Rattle.ipc_traps.proofs.Laws.{asked_local, asked_end}
use Rattle.lab_sched.specs.declared.stepped.Stepped.{Stepped}
use Rattle.lab_sched.specs.Worlds.{Process, Running, Waiting, Ended, machine_of, NextAction, moves, calls, next_action, action_for, StepEffect, nothing, kernel_step, first_try, retry, step_effect, process_after, process_after_answer}
use Rattle.lab_sched.specs.Held.{asked_by, local_told, stepped_of}
use Rattle.lab_sched.specs.LocalRun.{IsLocalStep, AreLocal}
use Rattle.lab_sched.proofs.OwnSteps.{first_local}
use Rattle.lab_conditions.specs.declared.never.Refusal.{Refusal}
use Rattle.lab_conditions.specs.Conditions.{option_any}
use Rattle.lab_conditions.specs.Refusals.{error_told, is_error, is_refused}
use Rattle.lab_worlds.specs.Calls.{IsAtCall}
use Rattle.lab_worlds.specs.declared.errors.Errors.{Errors}
use Rattle.lab_worlds.specs.declared.errors.Errors.TheVariants.{No, Only, Any}
use Rattle.lab_worlds.specs.Errors.{IsAmong, HasErrorAmong, IsLocalStepAmong, AreLocalAmong, IsAnsweredToCall}
use Rattle.lab_worlds.specs.Unwaiting.{GoesOn}
use Rattle.lab_worlds.specs.Private.Onward.{IsRefusedWith}

-- a step whose error is none of those that are meant isn't refused so
among_none : (r : Refusal) (o : Option ℕ) → IfSome o (λ n. IsAmong n No) → option_any (is_error r.error) o ≡ false
among_none r None h = refl
among_none r (Some n) h = absurd h

among_one : (r : Refusal) (m : ℕ) (o : Option ℕ) → is_error r.error m ≡ false → IfSome o (λ n. IsAmong n (Only m)) → option_any (is_error r.error) o ≡ false
among_one r m None not h = refl
among_one r m (Some n) not h = ap (is_error r.error) h ∙ not

pub free_refused : (r : Refusal) (told : Stepped) → HasErrorAmong No told → is_refused r told ≡ false
free_refused r told h = among_none r (error_told told) h

pub only_refused : (r : Refusal) (m : ℕ) (told : Stepped) → is_error r.error m ≡ false → HasErrorAmong (Only m) told → is_refused r told ≡ false
only_refused r m told not h = among_one r m (error_told told) not h

-- among more errors
more : (es fs : Errors) (o : Option ℕ) → ((n : ℕ) → IsAmong n es → IsAmong n fs) → IfSome o (λ n. IsAmong n es) → IfSome o (λ n. IsAmong n fs)
more es fs None all h = h
more es fs (Some n) all h = all n h

pub error_more : (es fs : Errors) (told : Stepped) → ((n : ℕ) → IsAmong n es → IsAmong n fs) → HasErrorAmong es told → HasErrorAmong fs told
error_more es fs told all h = more es fs (error_told told) all h

pub local_more : (es fs : Errors) (n : ℕ) (s u : Process) → ((m : ℕ) → IsAmong m es → IsAmong m fs) → AreLocalAmong es n s u → AreLocalAmong fs n s u
local_more es fs n s u all h =
    steps_map (IsLocalStepAmong es) (IsLocalStepAmong fs) (λ x. x) (λ x y step. (step.0, error_more es fs (local_told (asked_by (Some x))) all step.1)) n s u h

-- a step that is refused with an error is a step among errors that have it
one : (es : Errors) (m : ℕ) (o : Option ℕ) → o ≡ Some m → IsAmong m es → IfSome o (λ n. IsAmong n es)
one es m o is among = subst (λ x. IfSome x (λ n. IsAmong n es)) (sym is) among

pub refused_among : (es : Errors) (m : ℕ) (s u : Process) → IsLocalStep s u → IsRefusedWith m s → IsAmong m es → IsLocalStepAmong es s u
refused_among es m s u step is among = (step, one es m (error_told (local_told (asked_by (Some s)))) is among)

-- steps of a machine's own are no calls
own_step : (es : Errors) (m q : Machine) → IsOwnStep m q → IsLocalStepAmong es (Running m) (Running q)
unfolding next_action
own_step es m q own =
    let asked = asked_local m q own in
    ((q, ap (action_for m) asked, refl), subst (λ r. HasErrorAmong es (local_told (Some r))) (sym asked) tt)

-- a process runs after its local steps
runs_after : (n : ℕ) (m : Machine) (u : Process) → AreLocal n (Running m) u → (q : Machine) × (u ≡ Running q)
runs_after zero m u h = (m, sym h)
runs_after (suc n) m u h = let first = first_local n m u h in runs_after n first.0 u first.2

pub own_among : (n : ℕ) (s u : Process) → AreLocal n s u → AreOwnSteps n (machine_of s) (machine_of u) → (es : Errors) → AreLocalAmong es n s u
own_among zero s u h own es = h
own_among (suc n) (Running m) u h own es =
    let r = runs_after (suc n) m u h in
    subst (λ x. AreLocalAmong es (suc n) (Running m) x) (sym r.1)
    (steps_map IsOwnStep (IsLocalStepAmong es) Running (own_step es) (suc n) m r.0 (subst (λ x. AreOwnSteps (suc n) m (machine_of x)) r.1 own))
own_among (suc n) _ u h own es = absurd h.1

-- what is asked before a stop
pub refused_with : (m : Machine) (e : Errno) → next_request m ≡ Refuses e → IsRefusedWith (number_of e) (Running m)
refused_with m e is = ap (λ r. error_told (local_told (Some r))) is

pub call_asked : (m : Machine) (c : Call) → next_request m ≡ Calls c → IsAtCall (Running m)
unfolding next_action
call_asked m c is = (c, ap (action_for m) is)

pub end_asked : (m : Machine) (how : How) → next_step m ≡ Stops (End how) → IsAtCall (Running m)
unfolding next_action
end_asked m how stands = (Exit, ap (action_for m) (asked_end m how stands))

-- what comes of a step by its effect, where nothing comes behind it
answered_by : (k : KernelState) (p : ℕ) (s : Process) (e : StepEffect) → step_effect k p (Some s) ≡ e → HasErrorAmong No (stepped_of (asked_by (Some s)) e) → IsAtCall (process_after s e) → IsAnsweredToCall k p s 0 No
answered_by k p s e is told at = (
  process_after s e,
  record {
    step = subst (λ x. HasErrorAmong No (stepped_of (asked_by (Some s)) x)) (sym is) told;
    after = ap (process_after s) is;
  },
  at,
)

-- a process that doesn't go on is refused nothing, and has no local step then
pub still_answered : (k : KernelState) (p : ℕ) (s : Process) → (GoesOn (step_effect k p (Some s)) → ⊥) → IsAnsweredToCall k p s 0 No
unfolding process_after_answer
still_answered k p (Running m) none = by (next_action m) refl
  where
    tried : (c : Call) (a : Answer) → step_effect k p (Some (Running m)) ≡ kernel_step m c a → IsAnsweredToCall k p (Running m) 0 No
    tried c Wait is = answered_by k p (Running m) (kernel_step m c Wait) is tt tt
    tried c (Done r) is = absurd (none (subst GoesOn (sym is) tt))

    by : (x : NextAction) → next_action m ≡ x → IsAnsweredToCall k p (Running m) 0 No
    by (moves q) is = absurd (none (subst GoesOn (sym (ap (first_try k p m) is)) tt))
    by (calls c) is = tried c (answer k p c).0 (ap (first_try k p m) is)
still_answered k p (Waiting m c) none = by (answer k p c).0 refl
  where
    by : (a : Answer) → (answer k p c).0 ≡ a → IsAnsweredToCall k p (Waiting m c) 0 No
    by Wait is = answered_by k p (Waiting m c) nothing (ap (retry m c) is) tt tt
    by (Done r) is = absurd (none (subst GoesOn (sym (ap (retry m c) is)) tt))
still_answered k p (Ended e) none = answered_by k p (Ended e) nothing refl tt tt
