-- A process by itself: where its local steps and the answers to its calls lead it, whatever the kernel is.
use Rattle.std.specs.Prelude.{ℕ, ◌+◌, ◌≡◌, List, [], ◌∷◌}
use Rattle.lc3_machine.specs.Process.{Process as Machine}
use Rattle.lc3_machine.specs.Steps.{AreSteps}
use Rattle.ipc_kernel.specs.declared.call.Call.{Call}
use Rattle.ipc_kernel.specs.declared.call.Answer.{Answer}
use Rattle.ipc_kernel.specs.declared.call.Answer.TheVariants.{Done, Wait}
use Rattle.lab_sched.specs.Worlds.{Process, Running, Waiting, Ended, moves, calls, next_action, process_after_answer}
use Rattle.lab_sched.specs.declared.trace.TracedCall.{TracedCall}
use Rattle.lab_sched.specs.declared.trace.Trace.{Trace}

-- u is s after its next step, which is local: one of its machine's own, or a refusal
abbrev pub IsLocalStep : Process → Process → Type 0
IsLocalStep (Running m) u = (q : Machine) × (next_action m ≡ moves q) × (u ≡ Running q)
IsLocalStep (Waiting m c) u = ⊥
IsLocalStep (Ended e) u = ⊥

-- u is s after n local steps
abbrev pub AreLocal : ℕ → Process → Process → Type 0
AreLocal n s u = AreSteps IsLocalStep n s u

-- the process asks for the call or waits for it, and v is what the answer makes of it; one that waits isn't told to wait again
abbrev pub TakesAnswer : Process → Call → Answer → Process → Type 0
TakesAnswer (Running m) c a v = (next_action m ≡ calls c) × (process_after_answer m c a ≡ v)
TakesAnswer (Waiting m d) c (Done r) v = (d ≡ c) × (process_after_answer m c (Done r) ≡ v)
TakesAnswer (Waiting m d) c Wait v = ⊥
TakesAnswer (Ended e) c a v = ⊥

-- u is s after these calls, with the local steps before each, and n local steps after the last
abbrev pub Leads : Process → List TracedCall → ℕ → Process → Type 0
Leads s [] n u = AreLocal n s u
Leads s (t ∷ ts) n u =
    (x : Process) × (y : Process) × AreLocal t.before s x × TakesAnswer x t.call t.answer y × Leads y ts n u

-- u is s after a trace
abbrev pub IsLocalRun : Process → Trace → Process → Type 0
IsLocalRun s t u = Leads s t.calls.items t.after u

-- the steps of calls, with the local steps before each
abbrev pub weight : List TracedCall → ℕ
weight [] = 0
weight (t ∷ ts) = t.before + 1 + weight ts

-- the steps of a trace
abbrev pub steps : Trace → ℕ
steps t = weight t.calls.items + t.after
