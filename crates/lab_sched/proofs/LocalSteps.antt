-- Local steps of a process, what keeps it from the next one, and what comes of its call.
use Rattle.std.proofs.Common.{ℕ, ◌≡◌, Some, refl, sym, ap, ◌∙◌, subst, Ok, length, rules}
use Rattle.lc3_machine.specs.Process.{Process as Machine, Held}
use Rattle.lc3_machine.specs.Reply.{process_after_end}
use Rattle.lc3_machine.specs.Steps.{AreOwnSteps}
use Rattle.lc3_machine.specs.declared.want.How.{How}
use Rattle.lc3_machine.specs.declared.want.Want.TheVariants.{End}
use Rattle.lc3_machine.specs.declared.machine.Progress.{Progress}
use Rattle.lc3_machine.specs.declared.machine.Progress.TheVariants as progress
use Rattle.ipc_kernel.specs.Kernel.{KernelState}
use Rattle.ipc_kernel.specs.declared.call.Call.{Call}
use Rattle.ipc_kernel.specs.declared.call.Call.TheVariants.{Exit}
use Rattle.ipc_names.specs.declared.errno.Errno.{Errno}
use Rattle.ipc_kernel.specs.declared.call.Reply.{Reply}
use Rattle.ipc_kernel.specs.declared.call.Reply.TheVariants.{Plain}
use Rattle.ipc_kernel.specs.declared.call.Answer.TheVariants.{Done, Wait}
use Rattle.ipc_kernel.specs.Answer.{answer}
use Rattle.ipc_kernel.proofs.LawfulAnswers.{answer_wait}
use Rattle.ipc_kernel.specs.Replies.{IsReplyTo}
use Rattle.ipc_traps.specs.Asked.{Request, Refuses, Calls, Ends, next_request}
use Rattle.ipc_traps.specs.Reply.{HasRoom, IsPrepared, process_after_reply}
use Rattle.ipc_traps.proofs.Laws.{room_prepared, asked_end, asked_local}
use Rattle.ipc_kernel.specs.declared.call.Answer.{Answer}
use Rattle.lab_sched.specs.declared.process.Process.{Process as Kept}
use Rattle.lab_sched.specs.declared.process.Process.TheVariants as kept
use Rattle.lab_sched.specs.declared.stepped.Stepped.TheVariants as stepped
use Rattle.lab_sched.specs.Worlds.{Process, Running, Waiting, Ended, machine_of, calls, next_action, action_for, process_after_answer, kernel_step}
use Rattle.lab_sched.specs.Held.{process_view, IsHeld, local_told, HasStepped, StepResult, stepped_of}
use Rattle.lab_sched.specs.LocalRun.{IsLocalStep, AreLocal}
use Rattle.lab_sched.specs.Private.Moved.{Came}
use Rattle.lab_sched.specs.Settling.{AsksFor}
use Rattle.lab_sched.specs.Stepping.{CanTakeReply, StandsBefore, StopsBy, after_end, after_reply}

-- no local step
pub local_none : (s u : Process) (n : ℕ) → AreLocal n s u → n ≡ 0 → u ≡ s
local_none s u n h none = sym (subst (λ i. AreLocal i s u) none h)

-- one local step, by what was asked
local_first : (k : KernelState) (p : ℕ) (m : Machine) (request : Request) (u : Process) → AreLocal 1 (Running m) u → next_request m ≡ request
    → HasStepped k p (Running m) k u (local_told (Some request))
local_first k p m request u h asked = search rules

-- one step that a machine takes by itself
own_first : (k : KernelState) (p : ℕ) (s u : Process) → AreLocal 1 s u → AreOwnSteps 1 (machine_of s) (machine_of u) → HasStepped k p s k u stepped.Moved
own_first k p x u h own = search (rules, local_first, asked_local)

pub local_one : (k : KernelState) (p : ℕ) (s u : Process) (n : ℕ) → AreLocal n s u → AreOwnSteps n (machine_of s) (machine_of u) → n ≡ 1
    → HasStepped k p s k u stepped.Moved
local_one k p s u n h own one =
    own_first k p s u (subst (λ i. AreLocal i s u) one h) (subst (λ i. AreOwnSteps i (machine_of s) (machine_of u)) one own)

-- a call that is asked for is what a process does next
pub asks : (m : Machine) (c : Call) → next_request m ≡ Calls c → next_action m ≡ calls c
unfolding next_action
asks m c is = ap (λ r. action_for m r) is

told_waits : (m : Machine) (c : Call) → next_request m ≡ Calls c → process_after_answer m c Wait ≡ Waiting m c
unfolding process_after_answer
told_waits m c is = refl

told_reply : (m : Machine) (c : Call) (r : Reply) → next_request m ≡ Calls c → process_after_answer m c (Done r) ≡ Running (process_after_reply m r)
unfolding process_after_answer
told_reply m c r is = rw is refl

-- the first try of a call, by what the kernel answers
tried : (k j : KernelState) (p : ℕ) (m : Machine) (c : Call) (a : Answer) → next_request m ≡ Calls c → (a, j) ≡ answer k p c
    → HasStepped k p (Running m) j (process_after_answer m c a) (stepped_of (Some (next_request m)) (kernel_step m c a))
tried k j p m c a is answered = search (rules, asks)

-- a call that is answered at its first try
pub tried_reply : (k j : KernelState) (p : ℕ) {m h n : Machine} {c : Call} {r : Reply} → (next_request m ≡ Calls c) × (h ≡ m) → (Done r, j) ≡ answer k p c → n ≡ process_after_reply h r
    → HasStepped k p (Running m) j (Running n) (stepped.Called r)
tried_reply k j p {m} {h} {n} {c} {r} asked answered n-is =
    ap {B = StepResult} (λ u. record { process = u; kernel = j; told = stepped.Called r }) (ap Running (n-is ∙ ap (λ x. process_after_reply x r) asked.1) ∙ sym (told_reply m c r asked.0))
    ∙ tried k j p m c (Done r) asked.0 answered

-- a call that must wait at its first try
pub tried_wait : (k j : KernelState) (p : ℕ) {m : Machine} {c : Call} → next_request m ≡ Calls c → (Wait, j) ≡ answer k p c → HasStepped k p (Running m) j (Waiting m c) stepped.Waits
tried_wait k j p {m} {c} is answered =
    ap {B = StepResult} (λ u. record { process = u; kernel = j; told = stepped.Waits }) (sym (told_waits m c is)) ∙ tried k j p m c Wait is answered

-- a call that is refused without the kernel
pub tried_refused : (k : KernelState) (p : ℕ) (m n : Machine) {e : Errno} → (next_request m ≡ Refuses e) × IsLocalStep (Running m) (Running n)
    → HasStepped k p (Running m) k (Running n) (stepped.Refused e)
tried_refused k p m n {e} asked = local_first k p m (Refuses e) (Running n) (Running n, asked.1, refl) asked.0

-- there is room for each reply to what was asked
pub asked_room : (h : Held) {m : Machine} {c : Call} (r : Reply) → (next_request m ≡ Calls c) × (h.process ≡ m) → IsPrepared h → IsReplyTo c r → HasRoom h r
asked_room h {m} {c} r asked room form = room_prepared h c r room (ap next_request asked.1 ∙ asked.0) form

-- a running process, after its reply
pub running_told : (x : Kept) (h : Held) (reply : Reply) (q : Machine) → x ≡ kept.Running h → CanTakeReply x reply → q ≡ process_after_reply h.process reply → Running q ≡ after_reply (process_view x) reply
running_told x h reply q is can q-is = let so : CanTakeReply (kept.Running h) reply = rw is at can in rw (is, q-is, so.1.0) refl

-- a process that waits, after its reply
pub reply_told : (x : Kept) (h : Held) (c : Call) (reply : Reply) (q : Machine) → x ≡ kept.Waiting h c → IsHeld x → q ≡ process_after_reply h.process reply → Running q ≡ after_reply (process_view x) reply
reply_told x h c reply q is held q-is = let so : IsHeld (kept.Waiting h c) = rw is at held in rw (is, q-is, told_reply h.process c reply so.0) refl

-- a process that must still wait
pub wait_step : (k j : KernelState) (p : ℕ) (m : Machine) (c : Call) → (Wait, j) ≡ answer k p c
    → HasStepped k p (Waiting m c) j (Waiting m c) stepped.Same
wait_step k j p m c is = search (rules, answer_wait)

-- an end asks for Exit
act_end : (m : Machine) (how : How) → next_request m ≡ Ends how → next_action m ≡ calls Exit
unfolding next_action
act_end m how is = rw is refl

told_end : (m : Machine) (how : How) (r : Reply) → next_request m ≡ Ends how → process_after_answer m Exit (Done r) ≡ Ended (record { process = process_after_end m how; how = how })
unfolding process_after_answer
told_end m how r is = rw is refl

-- the end of a process
pub end_told : (k j : KernelState) (p : ℕ) (s u : Process) (how : How) → StandsBefore s (End how) → u ≡ after_end s how → j ≡ (answer k p Exit).1
    → HasStepped k p s j u (stepped.Called (Plain 0))
unfolding answer
end_told k j p (Running m) u how stands u-is j-is = let is = asked_end m how stands in rw (act_end m how is, u-is, j-is, told_end m how (Plain 0) is) refl
end_told k j p (Waiting m c) u how stands u-is j-is = absurd stands
end_told k j p (Ended e) u how stands u-is j-is = absurd stands

-- a process at its end asks for Exit
pub end_asks : (x : Kept) (h : Held) (p : Progress) (how : How) → x ≡ kept.Running h → p ≡ progress.Stopped (End how) → StopsBy (process_view x) p → AsksFor (process_view x) Exit
end_asks x h p how is stopped stops = search (rules, act_end, asked_end)

-- what came of a step that was taken
pub came : {A E : Type 0} {Told : A → Type 0} {k j : KernelState} {s u : Kept} {a : A} → Told a → IsHeld u → length j.processes ≡ length k.processes
    → Came {A = A} {E = E} Told k s (Ok a) j u
came told held count = record { ok = told; held = held; err = tt; kernel = tt; count = count }
