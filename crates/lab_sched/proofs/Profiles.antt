-- The processes of a world keep their profile.
use Rattle.std.proofs.Common.{◌≡◌, ℕ, zero, suc, Some, List, [], ◌∷◌, All, map, refl, sym, ap, ◌∙◌, subst, rules}
use Rattle.std.proofs.lemmas.List.Elements.{All-map}
use Rattle.lc3_table.specs.declared.profile.Profile.{Profile}
use Rattle.lc3_machine.specs.Process.{Process as Machine}
use Rattle.lc3_machine.proofs.Profiles.{ended_profile}
use Rattle.ipc_kernel.specs.declared.call.Call.{Call}
use Rattle.ipc_kernel.specs.declared.call.Reply.{Reply}
use Rattle.ipc_kernel.specs.declared.call.Answer.{Answer}
use Rattle.ipc_kernel.specs.declared.call.Answer.TheVariants.{Done, Wait}
use Rattle.ipc_kernel.specs.Kernel.{KernelState}
use Rattle.ipc_traps.specs.Asked.{Request, Local, Refuses, Calls, Ends, next_request}
use Rattle.ipc_traps.proofs.Profiles.{Keeps, asked_keeps, replied_profile}
use Rattle.lab_sched.specs.declared.process.Program.{Program}
use Rattle.lab_sched.specs.Worlds.{Process, Running, Waiting, Ended, NextAction, moves, calls, next_action, action_for, process_after_answer, process_after_reply_to, step_effect, first_try, retry, process_after, profile_of, HasProfile, HaveOneProfile}
use Rattle.lab_sched.specs.LocalRun.{AreLocal, TakesAnswer, Leads, IsLocalRun}
use Rattle.lab_sched.specs.Starts.{start_of}
use Rattle.lab_sched.specs.declared.trace.TracedCall.{TracedCall}
use Rattle.lab_sched.specs.declared.trace.Trace.{Trace}
use Rattle.lab_sched.proofs.OwnSteps.{first_local}

replied-by : (m : Machine) (request : Request) (r : Reply) → profile_of (process_after_reply_to m request r) ≡ m.profile
replied-by m x r = search (rules, replied_profile, ended_profile)

-- an answer keeps the profile
pub told_profile : (m : Machine) (c : Call) (a : Answer) → profile_of (process_after_answer m c a) ≡ m.profile
unfolding process_after_answer
told_profile m c Wait = refl
told_profile m c (Done r) = replied-by m (next_request m) r

-- a local step goes on with this profile
abbrev KeepsIn : Profile → NextAction → Type 0
KeepsIn profile (moves n) = n.profile ≡ profile
KeepsIn profile (calls c) = Unit {0}

acts : (m : Machine) (request : Request) → Keeps m request → KeepsIn m.profile (action_for m request)
unfolding Keeps
acts m (Local n) h = h
acts m (Refuses e) h = replied_profile m _
acts m (Calls c) h = tt
acts m (Ends how) h = tt

act_keeps : (m : Machine) → KeepsIn m.profile (next_action m)
unfolding next_action
act_keeps m = acts m (next_request m) (asked_keeps m)

pub moves_profile : (m q : Machine) → next_action m ≡ moves q → q.profile ≡ m.profile
moves_profile m q is = subst (KeepsIn m.profile) is (act_keeps m)

first-try : (k : KernelState) (p : ℕ) (m : Machine) (a : NextAction) → KeepsIn m.profile a → profile_of (process_after (Running m) (first_try k p m a)) ≡ m.profile
first-try k p m x h = search (rules, told_profile)

retried : (m : Machine) (c : Call) (a : Answer) → profile_of (process_after (Waiting m c) (retry m c a)) ≡ m.profile
retried m c x = search (rules, told_profile)

-- a step keeps the profile
pub effect_profile : (k : KernelState) (p : ℕ) (s : Process) → profile_of (process_after s (step_effect k p (Some s))) ≡ profile_of s
effect_profile k p x = search (rules, first-try, act_keeps, retried)

-- local steps keep the profile
pub locals_profile : (n : ℕ) (s u : Process) → AreLocal n s u → profile_of u ≡ profile_of s
locals_profile zero s u h = ap profile_of (sym h)
locals_profile (suc n) (Running m) u h =
    let first = first_local n m u h in
    locals_profile n (Running first.0) u first.2 ∙ moves_profile m first.0 first.1
locals_profile (suc n) (Waiting m c) u h = absurd h.1
locals_profile (suc n) (Ended e) u h = absurd h.1

is_told : (s : Process) (c : Call) (a : Answer) (v : Process) → TakesAnswer s c a v → profile_of v ≡ profile_of s
is_told x c a v h = search (rules, told_profile)

leads_profile : (ts : List TracedCall) (s : Process) (n : ℕ) (u : Process) → Leads s ts n u → profile_of u ≡ profile_of s
leads_profile [] s n u h = locals_profile n s u h
leads_profile (t ∷ ts) s n u h =
    leads_profile ts h.1 n u h.4 ∙ is_told h.0 t.call t.answer h.1 h.3 ∙ locals_profile t.before s h.0 h.2

-- a trace keeps the profile
pub alone_profile : (s : Process) (t : Trace) (u : Process) → IsLocalRun s t u → profile_of u ≡ profile_of s
alone_profile s t u h = leads_profile t.calls.items s t.after u h

-- processes of this profile have one
pub one_of : (profile : Profile) (ps : List Process) → All (HasProfile profile) ps → HaveOneProfile ps
one_of profile x h = search rules

-- the processes of programs have the profile that they were made of
pub starts_profile : (profile : Profile) (ps : List Program) → HaveOneProfile (map (start_of profile) ps)
starts_profile profile ps = one_of profile (map (start_of profile) ps) (All-map (HasProfile profile) (start_of profile) ps (λ i d below. refl))
