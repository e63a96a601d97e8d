-- The line of a call shows what it was answered.
use Rattle.std.proofs.Common.{◌≡◌, ℕ, true, List, [], ◌∷◌, Option, Some, None, slice_get, refl, sym, ap, subst, ◌∙◌}
use Rattle.std.specs.Option.{option_map}
use Rattle.lc3_machine.specs.Process.{Process as Machine}
use Rattle.ipc_names.specs.declared.errno.Errno.{Errno}
use Rattle.ipc_kernel.specs.declared.call.Call.{Call}
use Rattle.ipc_kernel.specs.declared.call.Answer.{Answer}
use Rattle.ipc_kernel.specs.declared.call.Answer.TheVariants.{Done, Wait}
use Rattle.ipc_kernel.specs.Kernel.{KernelState}
use Rattle.ipc_kernel.specs.Answer.{answer}
use Rattle.ipc_traps.specs.Asked.{Request, Refuses, next_request}
use Rattle.ipc_traps.specs.declared.service.Service.{Service}
use Rattle.lab_sched.specs.Worlds.{Process, Running, Waiting, Ended, machine_of, NextAction, moves, calls, next_action, action_for, nothing, kernel_step, first_try, retry, step_effect, step}
use Rattle.lab_sched.specs.Held.{asked_by, stepped_of, told_in}
use Rattle.lab_sched.specs.declared.stepped.Stepped.{Stepped}
use Rattle.lab_sched.specs.declared.stepped.Stepped.TheVariants as stepped
use Rattle.lab_told.specs.Answers.{answered, outcome_of, wants_attributes, wanted_of}
use Rattle.lab_told.specs.Questions.{question, before_in}
use Rattle.lab_told.specs.Events.{call_by, wrote, act_with, act_by, told_with, told_by}
use Rattle.lab_told.specs.Services.{service_at}
use Rattle.lab_told.specs.Scenes.{Scene, before_at, has_effect, told}
use Rattle.lab_told.specs.Tallies.{TallyState, account_of}
use Rattle.lab_told.specs.declared.answers.Outcome.{Outcome}
use Rattle.lab_told.specs.declared.answers.Outcome.TheVariants.{Refused}
use Rattle.lab_told.specs.declared.asking.Asking.{Asking}
use Rattle.lab_told.specs.declared.asking.Observed.{Observed}
use Rattle.lab_told.specs.declared.tally.Account.{Account}
use Rattle.lab_told.specs.declared.told.Act.{Act}
use Rattle.lab_told.specs.declared.told.Act.TheVariants.{Calls}
use Rattle.lab_told.specs.declared.told.Called.{Called}
use Rattle.lab_told.specs.declared.told.Event.{Event}
use Rattle.lab_told.specs.declared.told.Told.TheVariants.{Shown}
use Rattle.lab_told.specs.Shown.{ShowsAnswer, ShowsRefusal}
use Rattle.lab_told.proofs.SceneLemmas.{told-if}

-- a call of a machine is its own, and has the kernel's answer
abbrev IsAnswered : KernelState → ℕ → Process → Machine → Call → Answer → Type 0
IsAnswered k p s m c a = (machine_of s ≡ m) × (a ≡ (answer k p c).0)

tried-answered : (k : KernelState) (p : ℕ) (n m : Machine) (c : Call) (a : Answer) (next : NextAction) → first_try k p n next ≡ kernel_step m c a
    → IsAnswered k p (Running n) m c a
tried-answered k p n m c a (moves q) e = absurd cc
tried-answered k p n m c a (calls d) e = (cc, cc)

retried-answered : (k : KernelState) (p : ℕ) (n m : Machine) (c d : Call) (a b : Answer) → (answer k p d).0 ≡ b → retry n d b ≡ kernel_step m c a
    → IsAnswered k p (Waiting n d) m c a
retried-answered k p n m c d a Wait is e = absurd cc
retried-answered k p n m c d a (Done r) is e = (cc, cc)

step-answered : (k : KernelState) (p : ℕ) (s : Process) (m : Machine) (c : Call) (a : Answer) → step_effect k p (Some s) ≡ kernel_step m c a → IsAnswered k p s m c a
step-answered k p (Running n) m c a e = tried-answered k p n m c a (next_action n) e
step-answered k p (Waiting n d) m c a e = retried-answered k p n m c d a (answer k p d).0 refl e
step-answered k p (Ended x) m c a e = absurd cc

-- where a call is shown, it was asked, and something became of it
abbrev IsShown : KernelState → TallyState → ℕ → Option Asking → Stepped → Called → Type 0
IsShown k t p asking told called = (q : Asking) × (o : Outcome) × (asking ≡ Some q) × (outcome_of told ≡ Some o) × (called ≡ call_by k t p q o)

wrote-shown : {A : Type 0} (bytes : List ℕ) (called : Called) → wrote bytes ≡ Some (Calls called) → A
wrote-shown [] called e = absurd cc
wrote-shown (b ∷ bs) called e = absurd cc

with-shown : (k : KernelState) (t : TallyState) (p : ℕ) (asking : Option Asking) (told : Stepped) (o : Option Outcome) (bytes : List ℕ) (called : Called) → outcome_of told ≡ o
    → act_with k t p asking o bytes ≡ Some (Calls called) → IsShown k t p asking told called
with-shown k t p (Some q) told (Some o) bytes called is e = (q, o, refl, is, cc)
with-shown k t p (Some q) told None bytes called is e = wrote-shown bytes called e
with-shown k t p None told o bytes called is e = wrote-shown bytes called e

act-shown : (k : KernelState) (t : TallyState) (p : ℕ) (asking : Option Asking) (count : ℕ) (told : Stepped) (after : Process) (called : Called)
    → act_by k t p asking count told after ≡ Some (Calls called) → IsShown k t p asking told called
act-shown k t p asking count told (Running m) called e = with-shown k t p asking told (outcome_of told) _ called refl e
act-shown k t p asking count told (Waiting m c) called e = with-shown k t p asking told (outcome_of told) _ called refl e
act-shown k t p asking count told (Ended x) called e = absurd cc

told_with-shown : (b : Observed) (a : Account) (act : Option Act) (e : Event) → told_with b a act ≡ Shown e → act ≡ Some e.act
told_with-shown b a None e is = absurd cc
told_with-shown b a (Some act) e is =
    let same : record { pc = b.pc; word = b.word; local = a.local; act = act } ≡ e = cc in
    ap (λ (x : Event). Some x.act) same

told_by-shown : (k : KernelState) (t : TallyState) (p : ℕ) (b : Observed) (told : Stepped) (after : Option Process) (e : Event) (called : Called)
    → told_by k t p b told after ≡ Shown e → e.act ≡ Calls called → IsShown k t p b.asking told called
told_by-shown k t p b told None e called is act-is = absurd cc
told_by-shown k t p b told (Some after) e called is act-is =
    act-shown k t p b.asking b.written told after called
    (told_with-shown b (account_of t p) (act_by k t p b.asking b.written told after) e is ∙ ap Some act-is)

-- the question of a process that is there, by its machine
asked-shown : (k : KernelState) (p : ℕ) (m : Machine) (service : Option Service) (q : Asking) → option_map (question k p m) service ≡ Some q
    → q.wants_attributes ≡ wants_attributes m q.service
asked-shown k p m None q e = absurd cc
asked-shown k p m (Some s) q e =
    let same : question k p m s ≡ q = cc in
    subst (λ (x : Asking). x.wants_attributes ≡ wants_attributes m x.service) same refl

-- what became of the call that is shown of a step of process p, where that is u
became : (s : Scene) (p : ℕ) (u : Process) (e : Event) (called : Called) (told-is : Stepped) → slice_get s.world.processes p ≡ Some u → told_in s.world p ≡ told-is
    → has_effect told-is ≡ true → told s p ≡ Shown e → e.act ≡ Calls called
    → (o : Outcome) × (outcome_of told-is ≡ Some o) × (called.outcome ≡ wanted_of (wants_attributes (machine_of u) called.service) o)
unfolding call_by
became s p u e called told-is here is effect shown act-is =
    let whole = sym (told-if s p true (ap has_effect is ∙ effect)) ∙ shown in
    let parts = told_by-shown (step s.world p).kernel s.tally p (before_at s p) (told_in s.world p) (slice_get (step s.world p).processes p) e called whole act-is in
    let q : Asking = parts.0 in
    let o : Outcome = parts.1 in
    let asked : (before_in s.world.kernel p (Some u)).asking ≡ Some q = ap (λ x. (before_in s.world.kernel p x).asking) (sym here) ∙ parts.2 in
    let wants : q.wants_attributes ≡ wants_attributes (machine_of u) q.service = asked-shown s.world.kernel p (machine_of u) (service_at (machine_of u)) q asked in
    let call : call_by (step s.world p).kernel s.tally p q o ≡ called = sym parts.4 in (
      o,
      ap outcome_of (sym is) ∙ parts.3,
      subst (λ (x : Called). x.outcome ≡ wanted_of (wants_attributes (machine_of u) x.service) o) call (ap (λ b. wanted_of b o) wants),
    )

call-effect : (request : Option Request) (m : Machine) (c : Call) (a : Answer) → has_effect (stepped_of request (kernel_step m c a)) ≡ true
call-effect request m c Wait = refl
call-effect request m c (Done r) = refl

call-outcome : (request : Option Request) (m : Machine) (c : Call) (a : Answer) → outcome_of (stepped_of request (kernel_step m c a)) ≡ Some (answered a)
call-outcome request m c Wait = refl
call-outcome request m c (Done r) = refl

-- of a call of the kernel its answer
pub shows_answer : ShowsAnswer
shows_answer s p m c a e called at shown act-is = by (slice_get s.world.processes p) refl
  where
    by : (o : Option Process) → slice_get s.world.processes p ≡ o → called.outcome ≡ wanted_of (wants_attributes m called.service) (answered (answer s.world.kernel p c).0)
    by None here =
        let none : nothing ≡ kernel_step m c a = sym (ap (λ x. step_effect s.world.kernel p x) here) ∙ at in absurd cc
    by (Some u) here =
        let is : IsAnswered s.world.kernel p u m c a = step-answered s.world.kernel p u m c a (sym (ap (λ x. step_effect s.world.kernel p x) here) ∙ at) in
        let request : Option Request = asked_by (slice_get s.world.processes p) in
        let b = became s p u e called (stepped_of request (kernel_step m c a)) here (ap (λ t. stepped_of request t) at) (call-effect request m c a) shown act-is in
        let same : answered a ≡ b.0 = let both : Some (answered a) ≡ Some b.0 = sym (call-outcome request m c a) ∙ b.1 in cc in
        b.2 ∙ ap (λ x. wanted_of (wants_attributes x called.service) b.0) is.0
        ∙ ap (λ o. wanted_of (wants_attributes m called.service) o) (sym same)
        ∙ ap (λ x. wanted_of (wants_attributes m called.service) (answered x)) is.1

refused-told : (s : Scene) (p : ℕ) (m : Machine) (f : Errno) → slice_get s.world.processes p ≡ Some (Running m) → next_request m ≡ Refuses f
    → told_in s.world p ≡ stepped.Refused f
unfolding next_action
refused-told s p m f here asks =
    ap (λ x. stepped_of (asked_by x) (step_effect s.world.kernel p x)) here
    ∙ ap (λ r. stepped_of (Some r) (first_try s.world.kernel p m (action_for m r))) asks

-- of a call that was refused without the kernel the error
pub shows_refusal : ShowsRefusal
shows_refusal s p m f e called here asks shown act-is =
    let b = became s p (Running m) e called (stepped.Refused f) here (refused-told s p m f here asks) refl shown act-is in
    let same : Refused f ≡ b.0 = let both : Some (Refused f) ≡ Some b.0 = b.1 in cc in
    b.2 ∙ ap (λ o. wanted_of (wants_attributes m called.service) o) (sym same)
