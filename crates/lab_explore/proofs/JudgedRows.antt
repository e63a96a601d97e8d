-- Rows whose worlds are judged, and what is found among them.
use Rattle.std.proofs.Common.{ℕ, suc, ◌≡◌, ◌+◌, ◌++◌, ◌<◌, ◌↔◌, Bool, Bor, IsTrue, List, [], ◌∷◌, Option, Some, None, refl, sym, ap, subst, ◌∙◌, slice_get, length, map, take, get_or, IfSome}
use Rattle.std.specs.Option.{option_map}
use Rattle.std.proofs.lemmas.List.{take_more}
use Rattle.ipc_kernel.specs.Kernel.{KernelState}
use Rattle.ipc_kernel.specs.Alike.{IsConsistent}
use Rattle.lab_sched.specs.declared.process.Process.{Process as Kept}
use Rattle.lab_sched.specs.declared.schedule.Block.{Block}
use Rattle.lab_sched.specs.Worlds.{Process, WorldState}
use Rattle.lab_sched.specs.Held.{process_view}
use Rattle.lab_sched.specs.Schedules.{steps_of}
use Rattle.lab_conditions.specs.declared.condition.Condition.{Condition}
use Rattle.lab_conditions.specs.declared.never.Never.{Never}
use Rattle.lab_conditions.specs.Conditions.{Holds, HoldsOverAny, world_of}
use Rattle.lab_states.specs.Rows.{Row}
use Rattle.lab_states.specs.CollapsedStates.{silent}
use Rattle.lab_states.proofs.SilentProcesses.{holds_silently}
use Rattle.lab_search.specs.declared.store.Store.{Store}
use Rattle.lab_search.specs.Stored.{IsExactly, IsState, IsAt, IsLike}
use Rattle.lab_worlds.specs.declared.walking.Walk.{Walk}
use Rattle.lab_worlds.specs.Calls.{Alongside}
use Rattle.lab_worlds.specs.Reached.{LeadsTo, Breaks, LeadsToStep, Violates, ViolatesIfSome, IsKept, KeptIfNone}
use Rattle.lab_worlds.specs.Walked.{IsWalk}
use Rattle.lab_worlds.proofs.AlikeWorlds.{consistent_run}
use Rattle.lab_worlds.proofs.AfterLocalSteps.{same_some}
use Rattle.lab_worlds.proofs.Pushes.{alongside_push}
use Rattle.lab_explore.specs.Private.Judged.{IsSilently, RowHolds, JudgesFor}
use Rattle.lab_explore.proofs.KeptConditions.{holds_alike}
use Rattle.lab_explore.proofs.MetWorlds.{row_at}

-- processes that are those of a row's world but for their outputs
silent_same : (t : Store) (is : List ℕ) (xs : List (Bor Kept)) (ss : List Process) → Alongside (λ i x. IsSilently t i (process_view x.now)) is xs → Alongside (IsState t) is ss
    → map silent (map (λ x. process_view x.now) xs) ≡ map silent ss
silent_same t [] [] [] h k = refl
silent_same t [] [] (s ∷ ss) h k = absurd (k 0)
silent_same t [] (x ∷ xs) ss h k = absurd (h 0)
silent_same t (i ∷ is) [] ss h k = absurd (h 0)
silent_same t (i ∷ is) (x ∷ xs) [] h k = absurd (k 0)
silent_same t (i ∷ is) (x ∷ xs) (s ∷ ss) h k =
    let first : IsSilently t i (process_view x.now) = h 0 in
    let same : first.0 ≡ s = same_some first.0 s (option_map process_view (slice_get t.states.processes i)) first.1 (k 0) in
    ap (λ y. y ∷ map silent (map (λ (x : Bor Kept). process_view x.now) xs)) (first.2 ∙ ap silent same) ∙ ap (λ ys. silent s ∷ ys) (silent_same t is xs ss (λ p. h (suc p)) (λ p. k (suc p)))

-- a kernel judges for itself
pub judges_exactly : (t : Store) (c : Condition) (i : ℕ) (k : KernelState) → IsExactly t i k → JudgesFor t c i k
judges_exactly t c i k is j ps other =
    let same = same_some k j (slice_get t.kernels.kernels i) is other in (
      λ h. subst (λ k. Holds c (world_of k ps)) same h,
      λ h. subst (λ k. Holds c (world_of k ps)) (sym same) h,
    )

-- any does where the condition needs none
pub judges_over_any : (t : Store) (c : Condition) (i : ℕ) (k : KernelState) → HoldsOverAny c → JudgesFor t c i k
judges_over_any t c i k any j ps other = (any k j ps, any j k ps)

-- what is judged of a row's processes, over a kernel that judges for its own, is judged of its world
pub row_judged : (t : Store) (r : Row) (at : ℕ) (c : Condition) (k : KernelState) (xs : List (Bor Kept)) (holds : Bool) → slice_get t.rows at ≡ Some r → JudgesFor t c r.kernel k
    → Alongside (λ i x. IsSilently t i (process_view x.now)) r.states xs → (IsTrue holds ↔ Holds c (world_of k (map (λ x. process_view x.now) xs))) → (w : WorldState) → IsAt t at w → (IsTrue holds ↔ Holds c w)
row_judged t r at c k xs holds there judges processes judged w row =
    let ps = map (λ (x : Bor Kept). process_view x.now) xs in
    let is = row_at t at r w there row in
    let over = judges w.kernel ps is.kernel in
    let alike = silent_same t r.states xs w.processes processes is.states in (
      λ h. holds_silently c w.kernel ps w.processes alike (over.0 (judged.0 h)),
      λ h. judged.1 (over.1 (holds_silently c w.kernel w.processes ps (sym alike) h)),
    )

-- one element more
pub next_along : {A B : Type 0} (R : A → B → Type 0) (xs : List A) (ys zs : List B) (n : ℕ) (x : A) (y : B) → Alongside R (take n xs) ys → n < length xs → x ≡ get_or xs n x → R x y → zs ≡ ys ++ y ∷ []
    → Alongside R (take (n + 1) xs) zs
next_along R xs ys zs n x y h within read here pushed =
    let more = take_more xs n x within ∙ ap (λ z. take n xs ++ z ∷ []) (sym read) in
    subst (λ vs. Alongside R (take (n + 1) xs) vs) (sym pushed) (subst (λ us. Alongside R us (ys ++ y ∷ [])) (sym more) (alongside_push R (take n xs) ys x y h here))

-- what is told of one thing that must never be so
pub violates_if : (n : Never) (start : WorldState) (o : Option (List Block)) → IfSome o (λ s. Violates start n s) → ViolatesIfSome start n o
violates_if n start None h = tt
violates_if n start (Some s) h = h

pub kept_if : (n : Never) (start : WorldState) (o : Option (List Block)) → (o ≡ None → IsKept start n) → KeptIfNone start n o
kept_if n start None h = h refl
kept_if n start (Some s) h = tt

-- the world that a walk leads to is alike one of which the condition holds
pub leads_to : (c : Condition) (start : WorldState) (t : Store) (at : ℕ) (w : Walk) → IsConsistent start.kernel → IsWalk start w → IsLike t at w.world → RowHolds t c at → LeadsTo start c w.schedule
leads_to c start t at w consistent walk like holds =
    let there = subst (λ (x : WorldState). IsConsistent x.kernel) walk.leads (consistent_run (steps_of w.schedule) start consistent) in
    record { effective = walk.effective; holds = subst (Holds c) (sym walk.leads) (holds_alike c like.0 w.world there like.2 (holds like.0 like.1)) }

-- a walk whose last step is what never must happen
pub leads_to_step : (n : Never) (start : WorldState) (old new : Walk) (p : ℕ) → IsWalk start old → IsWalk start new → Breaks n old.world p → steps_of new.schedule ≡ steps_of old.schedule ++ p ∷ []
    → LeadsToStep start n new.schedule
leads_to_step n start old new p h i breaks more = record {
  before = steps_of old.schedule;
  last = p;
  steps = more;
  effective = i.effective;
  breaks = subst (λ w. Breaks n w p) (sym h.leads) breaks;
}
