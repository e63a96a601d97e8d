-- Objects that stand in the order in which they are named first.
use Rattle.std.proofs.Common.{ℕ, zero, suc, ◌≡◌, ◌<◌, ◌≤◌, ◌+◌, ◌++◌, Bool, true, false, inl, inr, List, [], ◌∷◌, Option, Some, None, All, AllPairs, Contains, length, min, take, get_or, slice_get, sym, ap, ap₂, subst, refl, ◌∙◌, arith}
use Rattle.std.proofs.lemmas.Bool.{cases_lt}
use Rattle.std.proofs.lemmas.List.{get_or-take, length-take-le, take_more}
use Rattle.std.proofs.lemmas.List.Elements.{All-cons, All-contains, All-head, All-push, All-tail, Contains-append_left, Contains-push}
use Rattle.std.proofs.lemmas.List.Kept.{AllPairs-cons}
use Rattle.std.proofs.lemmas.List.Quantifiers.{all_pairs_push}
use Rattle.std.proofs.lemmas.Option.{get_or_from_slice_get, slice_get-get_or}
use Rattle.lab_sched.specs.declared.schedule.Block.{Block}
use Rattle.lab_questions.specs.declared.bases.Basis.{Basis}
use Rattle.lab_questions.specs.Bases.{StandsBefore}
use Rattle.lab_questions.specs.Private.Presences.{AddsNew, AreNamed, IsUnseen, unseen}

-- what stands at a place below i is among the first i
among_first : {X : Type 0} (xs : List X) (i j : ℕ) (x : X) → i < length xs → j < i → slice_get xs j ≡ Some x → Contains (take i xs) x
among_first xs i j x within less at =
    let count = length-take-le i xs (omega (arith, within)) in
    (j, omega (arith, less, count), get_or-take i xs j x less ∙ get_or_from_slice_get xs j x x at)

-- an basis that isn't among the first i names, and whose name stands there next, comes behind all that are
pub named_before : (names olds : List Basis) (i : ℕ) (x : Basis) → i < length names → All (Contains (take i names)) olds → All (Contains olds) (take i names) → (Contains olds x → ⊥)
    → All (λ o. StandsBefore names o x) olds
named_before names olds i x within only all new k d below =
    let o = get_or olds k d in
    let place = only k d below in
    let count = length-take-le i names (omega (arith, within)) in
    let less : place.0 < i = omega (arith, place.1, count) in
    let at : slice_get names place.0 ≡ Some o =
    slice_get-get_or names place.0 o (omega (arith, less, within)) ∙ ap Some (sym (get_or-take i names place.0 o less) ∙ place.2) in (
      place.0,
      at,
      λ j there. elim (cases_lt j i) [
        | inl early ↦ absurd (new (All-contains (Contains olds) (take i names) x all (among_first names i j x within early there)))
        | inr late ↦ omega (arith, late, less)
      ],
    )

-- at first there is none
pub named_none : (names : List Basis) → AreNamed names [] []
named_none names = record { all = λ k d below. absurd (omega arith); only = λ k d below. absurd (omega arith); order = λ i j d less below. absurd (omega arith) }

-- one name more
module _ (names olds news : List Basis) (i : ℕ) (x : Basis) (within : i < length names) (is : x ≡ get_or names i x) (adds : AddsNew olds x news) where
  more : take (i + 1) names ≡ take i names ++ x ∷ []
  more = take_more names i x within ∙ ap (λ o. take i names ++ o ∷ []) (sym is)

  new_all : All (Contains olds) (take i names) → All (Contains news) (take (i + 1) names)
  new_all all = elim adds [
    | inl old ↦ subst (All (Contains news)) (sym more) (All-push (Contains news) (take i names) x (subst (λ os. All (Contains os) (take i names)) (sym old.1) all) (subst (λ os. Contains os x) (sym old.1) old.0))
    | inr new ↦ subst (All (Contains news)) (sym more) (All-push (Contains news) (take i names) x
        (λ k d below. subst (λ os. Contains os (get_or (take i names) k d)) (sym new.1) (Contains-append_left olds (x ∷ []) (get_or (take i names) k d) (all k d below)))
        (subst (λ os. Contains os x) (sym new.1) (Contains-push olds x)))
  ]

  new_only : All (Contains (take i names)) olds → All (Contains (take (i + 1) names)) news
  new_only only =
      let wider : All (Contains (take (i + 1) names)) olds = λ k d below. subst (λ os. Contains os (get_or olds k d)) (sym more) (Contains-append_left (take i names) (x ∷ []) (get_or olds k d) (only k d below)) in
      elim adds [
        | inl old ↦ subst (All (Contains (take (i + 1) names))) (sym old.1) wider
        | inr new ↦ subst (All (Contains (take (i + 1) names))) (sym new.1) (All-push (Contains (take (i + 1) names)) olds x wider (subst (λ os. Contains os x) (sym more) (Contains-push (take i names) x)))
      ]

  new_order : All (Contains (take i names)) olds → All (Contains olds) (take i names) → AllPairs (StandsBefore names) olds → AllPairs (StandsBefore names) news
  new_order only all order = elim adds [
    | inl old ↦ subst (AllPairs (StandsBefore names)) (sym old.1) order
    | inr new ↦ subst (AllPairs (StandsBefore names)) (sym new.1) (all_pairs_push (StandsBefore names) olds x order (named_before names olds i x within only all new.0))
  ]

  pub named_next : AreNamed names (take i names) olds → AreNamed names (take (i + 1) names) news
  named_next before = record { all = new_all before.all; only = new_only before.only; order = new_order before.only before.all before.order }

-- what holds of all bases holds of those without a schedule
unseen_within : (P : Basis → Type 0) (os : List Basis) (seen : List (Option (List Block))) → All P os → All P (unseen os seen)
unseen_within P [] seen all = all
unseen_within P (o ∷ os) [] all = λ k d below. absurd (omega arith)
unseen_within P (o ∷ os) (None ∷ seen) all = All-cons P o (unseen os seen) (All-head P o os all) (unseen_within P os seen (All-tail P o os all))
unseen_within P (o ∷ os) (Some s ∷ seen) all = unseen_within P os seen (All-tail P o os all)

unseen_order : (R : Basis → Basis → Type 0) (os : List Basis) (seen : List (Option (List Block))) → AllPairs R os → AllPairs R (unseen os seen)
unseen_order R [] seen order = order
unseen_order R (o ∷ os) [] order = λ i j d less below. absurd (omega arith)
unseen_order R (o ∷ os) (None ∷ seen) order =
    AllPairs-cons R o (unseen os seen) (unseen_within (R o) os seen (λ k d below. order zero (suc k) d (omega arith) (omega arith)))
    (unseen_order R os seen (λ i j d less below. order (suc i) (suc j) d (omega arith) (omega arith)))
unseen_order R (o ∷ os) (Some s ∷ seen) order = unseen_order R os seen (λ i j d less below. order (suc i) (suc j) d (omega arith) (omega arith))

-- the bases that are told stand in the order of all
pub told_in_order : (R : Basis → Basis → Type 0) (complete : Bool) (bases told : List Basis) (seen : List (Option (List Block))) → AllPairs R bases
    → (complete ≡ true → told ≡ unseen bases seen) → (complete ≡ false → told ≡ []) → AllPairs R told
told_in_order R true bases told seen order is none = subst (AllPairs R) (sym (is refl)) (unseen_order R bases seen order)
told_in_order R false bases told seen order is none = subst (AllPairs R) (sym (none refl)) (λ i j d less below. absurd (omega arith))

-- those without a schedule are unseen, and no others
pub unseen_each : (os : List Basis) (seen : List (Option (List Block))) → All (IsUnseen os seen) (unseen os seen)
unseen_each [] seen = λ k d below. absurd (omega arith)
unseen_each (o ∷ os) [] = λ k d below. absurd (omega arith)
unseen_each (o ∷ os) (None ∷ seen) =
    All-cons (IsUnseen (o ∷ os) (None ∷ seen)) o (unseen os seen) (0, refl, refl) (λ k d below. let at = unseen_each os seen k d below in (suc at.0, at.1, at.2))
unseen_each (o ∷ os) (Some s ∷ seen) = λ k d below. let at = unseen_each os seen k d below in (suc at.0, at.1, at.2)

pub unseen_all : (os : List Basis) (seen : List (Option (List Block))) (i : ℕ) (p : Basis) → slice_get os i ≡ Some p → slice_get seen i ≡ Some None → Contains (unseen os seen) p
unseen_all [] seen i p at none = absurd (cc)
unseen_all (o ∷ os) [] i p at none = absurd (cc)
unseen_all (o ∷ os) (None ∷ seen) zero p at none = let is : o ≡ p = cc in (0, omega arith, is)
unseen_all (o ∷ os) (Some s ∷ seen) zero p at none = absurd (cc)
unseen_all (o ∷ os) (None ∷ seen) (suc i) p at none = let later = unseen_all os seen i p at none in (suc later.0, omega (arith, later.1), later.2)
unseen_all (o ∷ os) (Some s ∷ seen) (suc i) p at none = unseen_all os seen i p at none

-- one basis more
pub unseen_next : (os : List Basis) (seen : List (Option (List Block))) (n : ℕ) (o : Basis) (s : Option (List Block)) → slice_get os n ≡ Some o → slice_get seen n ≡ Some s
    → unseen (take (suc n) os) (take (suc n) seen) ≡ unseen (take n os) (take n seen) ++ unseen (o ∷ []) (s ∷ [])
unseen_next [] seen n o s at there = absurd (cc)
unseen_next (x ∷ xs) [] n o s at there = absurd (cc)
unseen_next (x ∷ xs) (y ∷ ys) zero o s at there = let is : x ≡ o = cc in let same : y ≡ s = cc in ap₂ (λ a b. unseen (a ∷ []) (b ∷ [])) is same
unseen_next (x ∷ xs) (None ∷ ys) (suc n) o s at there = ap (λ l. x ∷ l) (unseen_next xs ys n o s at there)
unseen_next (x ∷ xs) (Some y ∷ ys) (suc n) o s at there = unseen_next xs ys n o s at there

-- all of them
pub unseen_whole : (os : List Basis) (seen : List (Option (List Block))) (n : ℕ) → min (length os) (length seen) ≤ n → unseen (take n os) (take n seen) ≡ unseen os seen
unseen_whole [] seen zero past = refl
unseen_whole [] seen (suc n) past = refl
unseen_whole (o ∷ os) [] zero past = refl
unseen_whole (o ∷ os) [] (suc n) past = refl
unseen_whole (o ∷ os) (s ∷ seen) zero past = absurd (omega (arith, past))
unseen_whole (o ∷ os) (None ∷ seen) (suc n) past = ap (λ l. o ∷ l) (unseen_whole os seen n (omega (arith, past)))
unseen_whole (o ∷ os) (Some s ∷ seen) (suc n) past = unseen_whole os seen n (omega (arith, past))
