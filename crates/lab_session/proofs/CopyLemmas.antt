-- Copies of the processes of a world.
use Rattle.std.proofs.Common.{ℕ, ◌≡◌, ◌+◌, ◌≤◌, List, [], ◌∷◌, ◌++◌, Some, All, map, take, length, slice_get, sym, ap, subst, ◌∙◌}
use Rattle.std.proofs.lemmas.List.{take_more, map-append, length-map}
use Rattle.std.proofs.lemmas.Option.{slice_get_within, get_or_from_slice_get}
use Rattle.lc3_table.specs.declared.profile.Profile.{Profile}
use Rattle.ipc_kernel.specs.Limits.{process_max}
use Rattle.ipc_kernel.specs.Kernel.{KernelState}
use Rattle.lab_sched.specs.declared.process.Process.{Process as Kept}
use Rattle.lab_sched.specs.Worlds.{WorldState, HasProfile, HaveOneProfile, first_profile}
use Rattle.lab_sched.specs.Held.{process_view, IsHeld, IsWorld}

-- one more of a list is seen
pub seen_next : {X Y : Type 0} (f : X → Y) (xs : List X) (ys : List Y) (i : ℕ) (x : X) → map f xs ≡ take i ys → slice_get ys i ≡ Some (f x)
    → map f (xs ++ x ∷ []) ≡ take (i + 1) ys
seen_next f xs ys i x so_far at =
    let more = take_more ys i (f x) (slice_get_within ys i (f x) at) in
    let here = get_or_from_slice_get ys i (f x) (f x) at in
    map-append f xs (x ∷ []) ∙ ap (λ v. v ++ f x ∷ []) so_far ∙ sym (more ∙ ap (λ y. take i ys ++ y ∷ []) here)

-- processes that are seen as those of a world, over its kernel
pub seen_world : (w : WorldState) (cs : List Kept) (k : KernelState) (profile : Profile) → map process_view cs ≡ w.processes → All IsHeld cs → k ≡ w.kernel
    → length w.processes ≡ length w.kernel.processes → 1 ≤ length w.processes → length w.processes ≤ process_max
    → profile ≡ first_profile w.processes → All (HasProfile profile) w.processes → IsWorld cs k
seen_world w cs k profile same held kernel count some few first all =
    let long : length cs ≡ length w.processes = sym (length-map cs process_view) ∙ ap length same in
    let one : HaveOneProfile w.processes = subst (λ p. All (HasProfile p) w.processes) first all in
    record {
      held = held;
      profile = subst HaveOneProfile (sym same) one;
      some = subst (λ n. 1 ≤ n) (sym long) some;
      few = subst (λ n. n ≤ process_max) (sym long) few;
      count = long ∙ count ∙ ap (λ (j : KernelState). length j.processes) (sym kernel);
    }
