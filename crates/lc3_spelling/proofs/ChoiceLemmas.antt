-- The best of the names that were seen.
use Rattle.std.proofs.Common.{ℕ, ◌≡◌, ◌≤◌, ◌<◌, ◌+◌, inl, inr, List, [], ◌∷◌, Option, Some, None, IfSome, All, option_map, length, take, get_or, slice_get, subst, sym, ap, ◌∙◌, arith}
use Rattle.std.proofs.lemmas.List.{take_more, take_all}
use Rattle.std.proofs.lemmas.List.Elements.{All-push}
use Rattle.std.proofs.lemmas.Option.{slice_get-get_or}
use Rattle.lc3_spelling.specs.Edits.{near_edits}
use Rattle.lc3_spelling.specs.Private.Candidates.{IsNearer, IsBest}
use Rattle.lc3_spelling.specs.declared.choice.Candidate.{Candidate}

-- one element more
all_more : {X : Type 0} (P : X → Type 0) (xs : List X) (i : ℕ) → i < length xs → All P (take i xs) → ((d : X) → P (get_or xs i d)) → All P (take (i + 1) xs)
all_more P xs i within before last = λ k d h. (subst (All P) (sym (take_more xs i d within)) (All-push P (take i xs) (get_or xs i d) before (last d))) k d h

if_none : (o : Option ℕ) (P : ℕ → Type 0) → o ≡ None → IfSome o P
if_none None P is = tt
if_none (Some x) P is = absurd (cc)

if_some : (o : Option ℕ) (P : ℕ → Type 0) (x : ℕ) → o ≡ Some x → P x → IfSome o P
if_some o P x is holds = subst (λ q. IfSome q P) (sym is) holds

lower : (o : Option ℕ) (low high : ℕ) → low ≤ high → IfSome o (λ e. high ≤ e) → IfSome o (λ e. low ≤ e)
lower None low high less before = tt
lower (Some e) low high less before = omega (arith, less, before)

element : {X : Type 0} (xs : List X) (i : ℕ) → i < length xs → X
element [] i within = absurd (omega (arith, within))
element (x ∷ xs) i within = x

-- one name more
pub best_more : {X : Type 0} (text : X → List ℕ) (word : List ℕ) (names : List X) (i : ℕ) (best next result : Option Candidate) → i < length names → IsBest text word names (take i names) best → ((e : X) → option_map (λ c. c.edits) next ≡ near_edits word (text (get_or names i e))) → IfSome next (λ c. c.index ≡ i) → IsNearer best next result → IsBest text word names (take (i + 1) names) result
best_more text word names i None None result within before near index is =
    subst (IsBest text word names (take (i + 1) names)) (sym is)
    (all_more (λ n. near_edits word (text n) ≡ None) names i within before (λ e. sym (near e)))
best_more text word names i None (Some n) result within before near index is =
    subst (IsBest text word names (take (i + 1) names)) (sym is) (
      (ap (λ k. option_map (λ m. near_edits word (text m)) (slice_get names k)) index ∙ ap (option_map (λ m. near_edits word (text m))) (slice_get-get_or names i (element names i within) within) ∙ ap Some (sym (near (element names i within)))),
      all_more (λ m. IfSome (near_edits word (text m)) (λ e. n.edits ≤ e)) names i within
          (λ k e h. if_none (near_edits word (text (get_or (take i names) k e))) (λ x. n.edits ≤ x) (before k e h))
          (λ e. if_some (near_edits word (text (get_or names i e))) (λ x. n.edits ≤ x) n.edits (sym (near e)) (omega arith)),
    )
best_more text word names i (Some b) None result within before near index is =
    subst (IsBest text word names (take (i + 1) names)) (sym is) (
      before.0,
      all_more (λ m. IfSome (near_edits word (text m)) (λ e. b.edits ≤ e)) names i within before.1
          (λ e. if_none (near_edits word (text (get_or names i e))) (λ x. b.edits ≤ x) (sym (near e))),
    )
best_more text word names i (Some b) (Some n) result within before near index (inl is) =
    subst (IsBest text word names (take (i + 1) names)) (sym is.0) (
      before.0,
      all_more (λ m. IfSome (near_edits word (text m)) (λ e. b.edits ≤ e)) names i within before.1
          (λ e. if_some (near_edits word (text (get_or names i e))) (λ x. b.edits ≤ x) n.edits (sym (near e)) is.1),
    )
best_more text word names i (Some b) (Some n) result within before near index (inr is) =
    subst (IsBest text word names (take (i + 1) names)) (sym is.0) (
      (ap (λ k. option_map (λ m. near_edits word (text m)) (slice_get names k)) index ∙ ap (option_map (λ m. near_edits word (text m))) (slice_get-get_or names i (element names i within) within) ∙ ap Some (sym (near (element names i within)))),
      all_more (λ m. IfSome (near_edits word (text m)) (λ e. n.edits ≤ e)) names i within
          (λ k e h. lower (near_edits word (text (get_or (take i names) k e))) n.edits b.edits is.1 (before.1 k e h))
          (λ e. if_some (near_edits word (text (get_or names i e))) (λ x. n.edits ≤ x) n.edits (sym (near e)) (omega arith)),
    )

-- all names
pub all_seen : {X : Type 0} (P : X → Type 0) (xs : List X) (i : ℕ) → length xs ≤ i → All P (take i xs) → All P xs
all_seen P xs i past before = subst (All P) (take_all i xs past) before
