-- A process is taken out of its world, takes a step, and is put back.
use Rattle.std.proofs.Common.{ℕ, ◌≡◌, ◌<◌, ◌≤◌, List, [], ◌∷◌, inl, inr, Option, Some, length, slice_get, get_or, set, map, refl, ap, sym, ◌∙◌, subst, arith, All, ◌+◌, ◌++◌, take, replicate, rules}
use Rattle.std.specs.Prelude.{unwrap_or, Result, Ok, Err, IfOk, OnErr}
use Rattle.std.proofs.lemmas.List.{map-set, set-set, length-map, length-set, map-append, take_more, length-replicate}
use Rattle.std.proofs.lemmas.Option.{slice_get_cases, slice_get_read, slice_get-map}
use Rattle.std.proofs.lemmas.List.Elements.{All-set, All-weaker}
use Rattle.lc3_table.specs.declared.profile.Profile.{Profile}
use Rattle.ipc_kernel.specs.Kernel.{KernelState, empty_kernel}
use Rattle.lab_sched.specs.declared.process.Process.{Process as Kept}
use Rattle.lab_sched.specs.declared.process.Process.TheVariants as kept
use Rattle.lab_sched.specs.Starts.{Runs, start_of}
use Rattle.lab_sched.specs.Private.Fresh.{IsFresh}
use Rattle.lab_sched.specs.declared.stepped.Stepped.{Stepped}
use Rattle.lc3_machine.specs.Process.{Held, start}
use Rattle.lab_sched.specs.declared.process.Program.{Program}
use Rattle.lab_sched.specs.LocalRun.{AreLocal}
use Rattle.lab_sched.proofs.Executions.{execution_local, with_process}
use Rattle.lab_sched.proofs.Runs.{run-none, run-one, run_on}
use Rattle.lab_sched.specs.Worlds.{HasProfile, first_profile, Process, WorldState, run, StepEffect, step_effect, process_made, process_after, kernel_after, processes_with, after, step}
use Rattle.lab_sched.specs.Held.{process_view, IsHeld, IsWorld, told_in, HasStepped}
use Rattle.lab_sched.specs.Private.Moved.{Advances, HasRun}
use Rattle.lab_sched.proofs.ListPlaces.{get-set_same, get_past, set_same}
use Rattle.lab_sched.proofs.Profiles.{one_of, effect_profile, starts_profile}
use Rattle.std.proofs.lemmas.Grind.{common_steps}

-- the processes with what a step makes of process p in its place, where that is s
replaced_at : (ps : List Process) (p : ℕ) (s : Process) (o : Option Process) → slice_get ps p ≡ Some s → processes_with ps p o ≡ set ps p (unwrap_or o s)
replaced_at ps p s x at = search (rules, set_same)

-- the world after a step of process p, where that is s
pub after_effect : (w : WorldState) (p : ℕ) (s : Process) (t : StepEffect) → slice_get w.processes p ≡ Some s
    → after w p t ≡ record { processes = set w.processes p (process_after s t); kernel = kernel_after w.kernel p t }
after_effect w p s t at = ap (λ ps. record { processes = ps; kernel = kernel_after w.kernel p t }) (replaced_at w.processes p s (process_made t) at)

-- steps keep the profile of each process
step_profile : (profile : Profile) (w : WorldState) (p : ℕ) → All (HasProfile profile) w.processes → All (HasProfile profile) (step w p).processes
step_profile profile w p have = elim (slice_get_cases w.processes p).1 [
  | inl t ↦
      let t-is = ap (λ o. after w p (step_effect w.kernel p o)) t.2 ∙ after_effect w p t.0 (step_effect w.kernel p (Some t.0)) t.2 in
      subst (λ (v : WorldState). All (HasProfile profile) v.processes) (sym t-is)
      (All-set (HasProfile profile) w.processes p _ (effect_profile w.kernel p t.0 ∙ subst (HasProfile profile) t.3 (have p t.0 t.1)) have)
  | inr t ↦ subst (λ (v : WorldState). All (HasProfile profile) v.processes) (sym (ap (λ o. after w p (step_effect w.kernel p o)) t.1)) have
]

run_profile : (profile : Profile) (w : WorldState) (ns : List ℕ) → All (HasProfile profile) w.processes → All (HasProfile profile) (run w ns).processes
unfolding run
run_profile profile w [] have = have
run_profile profile w (p ∷ ns) have = run_profile profile (step w p) ns (step_profile profile w p have)

-- a world, as it is kept
abbrev pub kept_world : List Kept → KernelState → WorldState
kept_world ps k = record { processes = map process_view ps; kernel = k }

-- process p of a world is kept as s
pub record IsAt (ps : List Kept) (k : KernelState) (w : WorldState) (p : ℕ) (s : Kept) : Type 0 where
  pub view : kept_world ps k ≡ w
  pub within : p < length ps
  pub read : s ≡ get_or ps p s

pub at_index : (ps : List Kept) (k : KernelState) (w : WorldState) (p : ℕ) (s : Kept) → kept_world ps k ≡ w → p < length ps → s ≡ get_or ps p s → IsAt ps k w p s
at_index ps k w p s view within read = record { view = view; within = within; read = read }

pub at_place : (ps : List Kept) (k : KernelState) (w : WorldState) (p : ℕ) (s : Kept) → kept_world ps k ≡ w → p < length w.processes → s ≡ get_or ps p s → IsAt ps k w p s
at_place ps k w p s view below read = record { view = view; within = omega (arith, ap (λ (x : WorldState). length x.processes) view, length-map ps process_view); read = read }

pub seen : {ps : List Kept} {k : KernelState} {w : WorldState} {p : ℕ} {s : Kept} → IsAt ps k w p s → slice_get w.processes p ≡ Some (process_view s)
seen {ps} {k} {w} {p} {s} at = search (rules, slice_get-map, slice_get_read)

-- the world with another process in its place
put : {ps : List Kept} {k : KernelState} {w : WorldState} {p : ℕ} {s : Kept} → IsAt ps k w p s → (j : KernelState) (u : Kept)
    → kept_world (set ps p u) j ≡ record { processes = set w.processes p (process_view u); kernel = j }
put {ps} {k} {w} {p} {s} at j u = search (rules, map-set)

pub put_process : {ps : List Kept} {k : KernelState} {w : WorldState} {p : ℕ} {s : Kept} → IsAt ps k w p s → (u : Kept) → kept_world (set ps p u) k ≡ with_process w p (process_view u)
unfolding with_process
put_process {ps} {k} {w} {p} {s} at u = put at k u ∙ ap (λ (x : WorldState). record { processes = set w.processes p (process_view u); kernel = x.kernel }) at.view

-- a process that is put back as it was
pub same_world : {ps : List Kept} {k : KernelState} {w : WorldState} {p : ℕ} {s : Kept} → IsAt ps k w p s → (j : KernelState) (u : Kept) → process_view u ≡ process_view s → j ≡ k
    → kept_world (set ps p u) j ≡ w
same_world {ps} {k} {w} {p} {s} at j u same j-is =
    put at j u ∙ ap (λ xs. record { processes = xs; kernel = j }) (set_same w.processes p (process_view u) (seen at ∙ ap (λ x. Some x) (sym same)))
    ∙ ap (λ i. record w { kernel = i }) (j-is ∙ ap (λ (x : WorldState). x.kernel) at.view)

-- the step of process p, where it is s over kernel k
step_led : (w : WorldState) (k j : KernelState) (p : ℕ) (s u : Process) (told : Stepped) → w.kernel ≡ k → slice_get w.processes p ≡ Some s → HasStepped k p s j u told
    → (step w p ≡ record { processes = set w.processes p u; kernel = j }) × (told ≡ told_in w p)
step_led w k j p s u told k-is at is = search (rules, after_effect)

-- the world after the step, and what it was
pub stepped_world : {ps : List Kept} {k : KernelState} {w : WorldState} {p : ℕ} {s : Kept} → IsAt ps k w p s → (j : KernelState) (u : Kept) (told : Stepped)
    → HasStepped k p (process_view s) j (process_view u) told → (kept_world (set ps p u) j ≡ step w p) × (told ≡ told_in w p)
stepped_world {ps} {k} {w} {p} {s} at j u told is =
    let led = step_led w k j p (process_view s) (process_view u) told (ap (λ (x : WorldState). x.kernel) (sym at.view)) (seen at) is in
    (put at j u ∙ sym led.0, led.1)

-- the world after steps of process p in a row
pub ran_world : {ps : List Kept} {k : KernelState} {w : WorldState} {p : ℕ} {s : Kept} → IsAt ps k w p s → (j : KernelState) (u : Kept) (n : ℕ)
    → HasRun k p (process_view s) j (process_view u) n → kept_world (set ps p u) j ≡ run w (replicate n p)
ran_world {ps} {k} {w} {p} {s} at j u n led = put at j u ∙ sym (led w (ap (λ (x : WorldState). x.kernel) (sym at.view)) (seen at))

-- steps lead to what a call that may be refused memory left
pub stepped_led : {E : Type 0} {ps : List Kept} {k : KernelState} {w : WorldState} {p : ℕ} {s : Kept} → IsAt ps k w p s → (j : KernelState) (u : Kept) (result : Result Stepped E)
    → IfOk result (HasStepped k p (process_view s) j (process_view u)) → OnErr result (process_view u ≡ process_view s) → OnErr result (j ≡ k)
    → (ns : List ℕ) × (kept_world (set ps p u) j ≡ run w ns)
stepped_led {E} {ps} {k} {w} {p} {s} at j u (Ok told) is same kernel = (p ∷ [], (stepped_world at j u told is).0 ∙ sym (run-one w p))
stepped_led {E} {ps} {k} {w} {p} {s} at j u (Err e) is same kernel = ([], same_world at j u same kernel ∙ sym (run-none w))

pub ran_led : {E : Type 0} {ps : List Kept} {k : KernelState} {w : WorldState} {p : ℕ} {s : Kept} → IsAt ps k w p s → (j : KernelState) (u : Kept) (result : Result ℕ E)
    → Advances k p s result j u → (ns : List ℕ) × (kept_world (set ps p u) j ≡ run w ns)
ran_led {E} {ps} {k} {w} {p} {s} at j u (Ok n) came = (replicate n p, ran_world at j u n came.ok)
ran_led {E} {ps} {k} {w} {p} {s} at j u (Err e) came = ([], same_world at j u came.err came.kernel ∙ sym (run-none w))

-- local steps in a row
pub run_locals : (k : KernelState) (p : ℕ) (s u : Process) (n : ℕ) → AreLocal n s u → HasRun k p s k u n
unfolding with_process
run_locals k p s u n local w k-is at = (execution_local n w p s u at local).leads ∙ ap (λ j. record { processes = set w.processes p u; kernel = j }) k-is

-- n steps in a row, and one more, which stands for m
pub run_next : (k j : KernelState) (p : ℕ) (s x u : Process) (told : Stepped) (n m c : ℕ) → HasRun k p s k x n → HasStepped k p x j u told
    → ((v : WorldState) → told ≡ told_in v p → step v p ≡ run v (replicate m p)) → c ≡ n + m → HasRun k p s j u c
run_next k j p s x u told n m c led is stands sum w k-is at =
    let v : WorldState = record { processes = set w.processes p x; kernel = k } in
    let next = step_led v k j p x u told refl (get-set_same w.processes p x (get_past w.processes p s at)) is in
    sym (run_on w v (run v (replicate m p)) n m c p (sym (led w k-is at)) refl sum) ∙ sym (stands v next.1) ∙ next.0
    ∙ ap (λ ps. record { processes = ps; kernel = j }) (set-set w.processes p x u)

-- the world's invariant, with another state of a process and of the kernel, to which steps lead
pub world_kept : {ps : List Kept} {k : KernelState} {w : WorldState} {p : ℕ} {s : Kept} → IsAt ps k w p s → IsWorld ps k → (j : KernelState) (u : Kept) (ns : List ℕ) → IsHeld u
    → length j.processes ≡ length k.processes → kept_world (set ps p u) j ≡ run w ns → IsWorld (set ps p u) j
world_kept {ps} {k} {w} {p} {s} at inv j u ns held count led =
    let all : length (set ps p u) ≡ length ps = length-set ps p u in
    record {
      held = All-set IsHeld ps p u held inv.held;
      profile =
          let profile = first_profile (map process_view ps) in
          one_of profile _ (subst (λ (x : WorldState). All (HasProfile profile) x.processes) (sym led)
          (run_profile profile w ns (subst (λ (x : WorldState). All (HasProfile profile) x.processes) at.view inv.profile)));
      some = omega (arith, inv.some);
      few = omega (arith, inv.few);
      count = all ∙ inv.count ∙ sym count;
    }

pub runs_held : (s : Kept) → Runs s → IsHeld s
runs_held x runs = search rules

-- a laboratory before its first step is a world
pub fresh_world : (ps : List Kept) (k : KernelState) → IsFresh ps k → IsWorld ps k
fresh_world ps k inv = search (rules, All-weaker, runs_held, length-replicate)

-- a process more at its start
pub started_more : (profile : Profile) (ks new : List Kept) (ps : List Program) (i : ℕ) (p : Program) (h : Held) → map process_view ks ≡ map (start_of profile) (take i ps) → i < length ps
    → p ≡ get_or ps i p → h.process ≡ start profile p.image.origin p.image.words p.input.items → new ≡ ks ++ kept.Running h ∷ [] → map process_view new ≡ map (start_of profile) (take (i + 1) ps)
started_more profile ks new ps i p h so within read is new-is = grind (arith, common_steps, map-append, take_more)

-- the processes of 1 to 64 programs over their kernel
pub fresh_is : (profile : Profile) (ks : List Kept) (ps : List Program) (k : KernelState) → map process_view ks ≡ map (start_of profile) ps → All Runs ks → k ≡ empty_kernel (length ps)
    → 1 ≤ length ps → length ps ≤ 64 → IsFresh ks k
fresh_is profile ks ps k so runs k-is some few = search (rules, length-map, starts_profile)
