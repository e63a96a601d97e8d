-- Copies of worlds in which no process waits.
use Rattle.std.proofs.Common.{ℕ, ◌≡◌, ◌≤◌, ◌+◌, ◌++◌, [], ◌∷◌, false, All, List, Some, sym, ap, subst, ◌∙◌, length, map, take, slice_get, arith}
use Rattle.std.proofs.lemmas.List.{take_more, take_all, map-append, length-map}
use Rattle.std.proofs.lemmas.Option.{slice_get_within, get_or_from_slice_get}
use Rattle.ipc_kernel.specs.Kernel.{KernelState}
use Rattle.ipc_kernel.specs.Limits.{process_max}
use Rattle.lc3_table.specs.declared.profile.Profile.{Profile}
use Rattle.lab_sched.specs.declared.process.Process.{Process as Kept}
use Rattle.lab_sched.specs.declared.process.Process.TheVariants as kept
use Rattle.lab_sched.specs.Worlds.{Process, WorldState, HasProfile, HaveOneProfile, first_profile}
use Rattle.lab_sched.specs.Verdicts.{is_waiting}
use Rattle.lab_sched.specs.Held.{process_view, IsHeld, IsWorld}

-- a process that doesn't wait
pub held_if : (k : Kept) → is_waiting (process_view k) ≡ false → IsHeld k
held_if (kept.Running h) runs = tt
held_if (kept.Waiting h c) runs = absurd (cc)
held_if (kept.Ended e) runs = tt

-- the elements before a place, and the one there
pub taken_more : {A : Type 0} (xs : List A) (n : ℕ) (x : A) → slice_get xs n ≡ Some x → take (n + 1) xs ≡ take n xs ++ x ∷ []
taken_more xs n x at = take_more xs n x (slice_get_within xs n x at) ∙ ap (λ z. take n xs ++ z ∷ []) (get_or_from_slice_get xs n x x at)

-- one more process
pub copied_more : (ps : List Process) (n : ℕ) (xs ys : List Kept) (x : Kept) → map process_view xs ≡ take n ps → slice_get ps n ≡ Some (process_view x) → ys ≡ xs ++ x ∷ [] → map process_view ys ≡ take (n + 1) ps
copied_more ps n xs ys x same at pushed =
    let y = process_view x in
    ap (map process_view) pushed ∙ map-append process_view xs (x ∷ []) ∙ ap (λ zs. zs ++ y ∷ []) same ∙ sym (taken_more ps n y at)

-- all of them, over a copy of the kernel
pub copied_world : (ps : List Kept) (k : KernelState) (w : WorldState) (n : ℕ) (profile : Profile) → All IsHeld ps → map process_view ps ≡ take n w.processes → length w.processes ≤ n → All (HasProfile profile) w.processes
    → profile ≡ first_profile w.processes → 1 ≤ length w.processes → length w.processes ≤ process_max → length w.processes ≡ length w.kernel.processes → k ≡ w.kernel → IsWorld ps k
copied_world ps k w n profile held taken past all is some few known same =
    let processes : map process_view ps ≡ w.processes = taken ∙ take_all n w.processes past in
    let count : length ps ≡ length w.processes = sym (length-map ps process_view) ∙ ap length processes in
    record {
      held = held;
      profile = subst HaveOneProfile (sym processes) (subst (λ x. All (HasProfile x) w.processes) is all);
      some = omega (arith, some, count);
      few = omega (arith, few, count);
      count = count ∙ known ∙ ap (λ (j : KernelState). length j.processes) (sym same);
    }
