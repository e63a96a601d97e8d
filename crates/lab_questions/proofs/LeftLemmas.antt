-- The messages that are left.
use Rattle.std.proofs.Common.{ℕ, zero, suc, ◌≡◌, ◌+◌, Bool, true, false, cond, List, [], ◌∷◌, ◌++◌, map, filter, flat_map, take, length, get_or, sum_by, refl, subst, sym, ap, ◌∙◌, inl, inr, arith}
use Rattle.std.proofs.lemmas.Bool.{cases_lt}
use Rattle.std.proofs.lemmas.List.{take_all}
use Rattle.std.proofs.Math.Seq.{take-suc}
use Rattle.std.proofs.lemmas.List.Folds.{flat_map-map}
use Rattle.std.proofs.lemmas.List.Sums.{sum_by-append, sum_by-cons}
use Rattle.std.proofs.lemmas.Option.{unwrap_or-slice_get}
use Rattle.ipc_kernel.specs.declared.place.Place.{Place}
use Rattle.ipc_kernel.specs.declared.place.Place.TheVariants.{Empty}
use Rattle.ipc_kernel.specs.Places.{place_at}
use Rattle.ipc_kernel.specs.Kernel.{KernelState}
use Rattle.ipc_kernel.specs.Alike.{IsAlike}
use Rattle.ipc_kernel.proofs.IndexLemmas.{place_at-past}
use Rattle.lab_questions.specs.Left.{left_lines, is_text, put_place, left_places, left_text}
use Rattle.lab_questions.specs.Orders.{comes_before}
use Rattle.lab_questions.proofs.Ordered.{how_often, one_if, one_more, one_order, put_among, put_count, put_rises, Rises}
use Rattle.lab_questions.proofs.PlaceSums.{sum_alike}

-- the lines of the first n places in which messages are left
abbrev texts : ℕ → KernelState → List (List ℕ)
texts n k = map left_lines (left_places n k)

map-put : (p : Place) (ps : List Place) → map left_lines (put_place p ps) ≡ put_among (left_lines p) (map left_lines ps)
map-put p [] = refl
map-put p (q ∷ qs) = by (comes_before (left_lines p) (left_lines q)) (map-put p qs)
  where
    by : (b : Bool) → map left_lines (put_place p qs) ≡ put_among (left_lines p) (map left_lines qs)
        → map left_lines (cond b (p ∷ q ∷ qs) (q ∷ put_place p qs)) ≡ cond b (left_lines p ∷ left_lines q ∷ map left_lines qs) (left_lines q ∷ put_among (left_lines p) (map left_lines qs))
    by true rest = refl
    by false rest = ap (λ zs. left_lines q ∷ zs) rest

-- they are in order
rises : (n : ℕ) (k : KernelState) → Rises (texts n k)
unfolding left_places
rises zero k = tt
rises (suc n) k = by (rises n k) (is_text (left_lines (place_at k.places n)))
  where
    by : Rises (texts n k) → (b : Bool) → Rises (map left_lines (cond b (put_place (place_at k.places n) (left_places n k)) (left_places n k)))
    by before true = subst Rises (sym (map-put (place_at k.places n) (left_places n k))) (put_rises (left_lines (place_at k.places n)) (texts n k) before)
    by before false = before

-- how often a text stands for a place
abbrev number : List ℕ → Place → ℕ
number s p = how_often s (filter is_text (left_lines p ∷ []))

-- one place more of some
sum-next : (s : List ℕ) (ps : List Place) (n : ℕ) → sum_by (number s) (take (suc n) ps) ≡ sum_by (number s) (take n ps) + number s (place_at ps n)
sum-next s ps n = elim (cases_lt n (length ps)) [
  | inl less ↦
      let one = sum_by-append (number s) (take n ps) (get_or ps n Empty ∷ []) in
      let here : number s (place_at ps n) ≡ number s (get_or ps n Empty) = ap (number s) (unwrap_or-slice_get ps n Empty) in
      let more : sum_by (number s) (take (suc n) ps) ≡ sum_by (number s) (take n ps ++ get_or ps n Empty ∷ []) = ap (sum_by (number s)) (take-suc ps n Empty less) in
      let last = sum_by-cons (number s) (get_or ps n Empty) [] in
      omega (arith, one, here, more, last)
  | inr past ↦
      let none : number s (place_at ps n) ≡ number s Empty = ap (number s) (place_at-past ps n past) in
      let same : sum_by (number s) (take (suc n) ps) ≡ sum_by (number s) (take n ps) =
      ap (sum_by (number s)) (take_all (suc n) ps (omega (arith, past)) ∙ sym (take_all n ps past)) in
      omega (arith, none, same)
]

-- each text stands there as often as it does for all places
counted : (s : List ℕ) (n : ℕ) (k : KernelState) → how_often s (texts n k) ≡ sum_by (number s) (take n k.places)
unfolding left_places
counted s zero k = refl
counted s (suc n) k = by (counted s n k) (is_text (left_lines p)) refl
  where
    p : Place
    p = place_at k.places n

    by : how_often s (texts n k) ≡ sum_by (number s) (take n k.places) → (b : Bool) → is_text (left_lines p) ≡ b → how_often s (map left_lines (cond b (put_place p (left_places n k)) (left_places n k))) ≡ sum_by (number s) (take (suc n) k.places)
    by rest true is =
        let put : how_often s (map left_lines (put_place p (left_places n k))) ≡ how_often s (put_among (left_lines p) (texts n k)) = ap (how_often s) (map-put p (left_places n k)) in
        let among = put_count s (left_lines p) (texts n k) in
        let one : number s p ≡ one_if s (left_lines p) + 0 = ap (λ b. how_often s (cond b (left_lines p ∷ []) [])) is ∙ one_more s (left_lines p) [] in
        let next = sum-next s k.places n in
        omega (arith, put, among, one, rest, next)
    by rest false is =
        let none : number s p ≡ 0 = ap (λ b. how_often s (cond b (left_lines p ∷ []) [])) is in
        let next = sum-next s k.places n in
        omega (arith, none, rest, next)

-- in kernels that are alike the same is left
pub left_alike : (k j : KernelState) → IsAlike k j → left_text j ≡ left_text k
unfolding left_text
left_alike k j a =
    sym (flat_map-map (λ lines. lines) left_lines (left_places 64 j))
    ∙ ap (flat_map (λ lines. lines)) (one_order (texts 64 j) (texts 64 k) (rises 64 j) (rises 64 k)
    (λ s. counted s 64 j ∙ sum_alike (number s) refl k j a ∙ sym (counted s 64 k)))
    ∙ flat_map-map (λ lines. lines) left_lines (left_places 64 k)
