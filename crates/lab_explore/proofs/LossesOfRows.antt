-- Which edges lose a message, by what is known of kernels and states.
use Rattle.std.proofs.Common.{ℕ, ◌≡◌, ◌+◌, ◌++◌, Bool, List, [], ◌∷◌, Option, Some, None, refl, sym, ap, subst, ◌∙◌, slice_get, map, take}
use Rattle.std.specs.Option.{option_map}
use Rattle.std.proofs.lemmas.List.{map-append, take_more}
use Rattle.std.proofs.lemmas.Option.{slice_get-map, slice_get_within, get_or_from_slice_get}
use Rattle.lab_sched.specs.declared.process.Process.{Process as Kept}
use Rattle.lab_sched.specs.Worlds.{Process, WorldState}
use Rattle.lab_sched.specs.Held.{process_view}
use Rattle.lab_conditions.specs.Losses.{messages, is_receiving}
use Rattle.lab_states.specs.Rows.{Row}
use Rattle.lab_search.specs.declared.store.Store.{Store}
use Rattle.lab_worlds.specs.Calls.{Both}
use Rattle.lab_search.specs.Stored.{IsState, IsAt}
use Rattle.lab_worlds.proofs.AfterLocalSteps.{same_some}
use Rattle.lab_explore.proofs.MetWorlds.{row_at, state_at}

-- a value of one element more
pub mapped_more : {A B : Type 0} (f : A → B) (xs : List A) (n : ℕ) (x : A) (y : B) (ys zs : List B) → ys ≡ map f (take n xs) → slice_get xs n ≡ Some x → y ≡ f x → zs ≡ ys ++ y ∷ []
    → zs ≡ map f (take (n + 1) xs)
mapped_more f xs n x y ys zs so at value pushed =
    let more = ap (map f) (take_more xs n x (slice_get_within xs n x at) ∙ ap (λ z. take n xs ++ z ∷ []) (get_or_from_slice_get xs n x x at)) ∙ map-append f (take n xs) (x ∷ []) in
    pushed ∙ ap (λ v. ys ++ v ∷ []) value ∙ ap (λ vs. vs ++ f x ∷ []) so ∙ sym more

-- the messages of the world of a row
pub counted_at : (t : Store) (counts : List ℕ) (at n : ℕ) (r : Row) → counts ≡ map messages t.kernels.kernels → slice_get t.rows at ≡ Some r → slice_get counts r.kernel ≡ Some n
    → (w : WorldState) → IsAt t at w → n ≡ messages w.kernel
counted_at t counts at n r same row count w here =
    same_some n (messages w.kernel) (slice_get counts r.kernel) count
    (ap (λ ns. slice_get ns r.kernel) same ∙ slice_get-map messages t.kernels.kernels r.kernel ∙ ap (option_map messages) (row_at t at r w row here).kernel)

both_views : (o : Option Kept) → option_map (λ s. is_receiving (process_view s)) o ≡ option_map is_receiving (option_map process_view o)
both_views None = refl
both_views (Some s) = refl

-- what a process of the world of a row is about to do
pub received_at : (t : Store) (receiving : List Bool) (at pid state : ℕ) (b : Bool) → receiving ≡ map (λ s. is_receiving (process_view s)) t.states.processes
    → ((r : Row) × (slice_get t.rows at ≡ Some r) × (slice_get r.states pid ≡ Some state)) → slice_get receiving state ≡ Some b
    → (w : WorldState) (s : Process) → IsAt t at w → slice_get w.processes pid ≡ Some s → b ≡ is_receiving s
received_at t receiving at pid state b same place read w s here there =
    let is : IsState t state s = subst (λ o. Both (IsState t) o (Some s)) place.2 (state_at t at pid place.0 w s place.1 here there) in
    same_some b (is_receiving s) (slice_get receiving state) read
    (ap (λ bs. slice_get bs state) same ∙ slice_get-map (λ k. is_receiving (process_view k)) t.states.processes state ∙ both_views (slice_get t.states.processes state) ∙ ap (option_map is_receiving) is)
