-- Kernels that are assembled from their parts.
use Rattle.std.proofs.Common.{◌≡◌, ◌≢◌, ℕ, ◌+◌, ◌-◌, ◌<◌, ◌≤◌, List, [], ◌∷◌, ◌++◌, length, get_or, take, Option, Some, None, sym, ap, ◌∙◌, arith, suc, replicate, Bool, false, is_some, rules}
use Rattle.std.specs.FinMap as fin
use Rattle.std.specs.Ordering.{nat_cmp}
use Rattle.std.specs.Cmp.Lexicographic.{slice_cmp}
use Rattle.std.proofs.lemmas.Bool.{cases_eq, cases_lt}
use Rattle.std.proofs.lemmas.List.{ext_get_or, get_or_default, get_or-take, length-take-le, take_more, append_assoc, append-nil, length-append}
use Rattle.ipc_names.specs.Table.{NameMap}
use Rattle.ipc_kernel.specs.declared.place.Place.{Place}
use Rattle.ipc_kernel.specs.declared.place.Kind.{Kind}
use Rattle.ipc_kernel.specs.declared.place.Place.TheVariants.{Empty}
use Rattle.ipc_kernel.specs.declared.process.OpenTables.{OpenTables}
use Rattle.ipc_kernel.specs.Places.{place_at, place_or_empty, places_or_empty, padded}
use Rattle.ipc_kernel.specs.Private.Index.{IsIndexOf, name_at, name_by}
use Rattle.ipc_kernel.proofs.PlaceLemmas.{get_or-emptied, length-emptied}
use Rattle.ipc_kernel.proofs.IndexLemmas.{index_put, place_at-get_or, place_at-past}
use Rattle.std.proofs.lemmas.Grind.{common_steps}

-- the places below i are as the rule leaves them
pub record SettledBelow (processes : List OpenTables) (ps : List Place) (i : ℕ) : Type 0 where
  pub below : (k : ℕ) (d : Place) → k < i → k < length ps → place_or_empty processes k (get_or ps k d) ≡ get_or ps k d

pub settled_more : (processes : List OpenTables) (ps : List Place) (i : ℕ) (x : Place) → SettledBelow processes ps i → i < length ps
    → place_or_empty processes i (get_or ps i x) ≡ get_or ps i x → SettledBelow processes ps (i + 1)
settled_more processes ps i x inv h is = search (rules, cases_eq, get_or_default)

pub settled_all : (processes : List OpenTables) (ps : List Place) (i : ℕ) → length ps ≤ i → SettledBelow processes ps i → places_or_empty processes ps ≡ ps
settled_all processes ps i h inv = ext_get_or Empty _ _ (length-emptied processes ps) (λ k lt.
    let less : k < length ps = omega (arith, length-emptied processes ps) in
    get_or-emptied processes ps k Empty less ∙ inv.below k Empty (omega arith) less)

-- as many places as are wanted
pub padded_full : (n : ℕ) (ps : List Place) → length ps ≡ n → padded n ps ≡ ps
unfolding padded
padded_full n ps e = let none : n - length ps ≡ 0 = omega arith in ap (λ m. ps ++ replicate m Empty) none ∙ append-nil ps

-- an empty place more
pub padded_more : (n : ℕ) (ps : List Place) → length ps < n → padded n (ps ++ Empty ∷ []) ≡ padded n ps
unfolding padded
padded_more n ps h =
    let long : length (ps ++ Empty ∷ []) ≡ length ps + 1 = length-append ps (Empty ∷ []) in
    let more : n - length ps ≡ suc (n - (length ps + 1)) = omega arith in
    ap (λ m. (ps ++ Empty ∷ []) ++ replicate (n - m) Empty) long ∙ append_assoc ps (Empty ∷ []) (replicate (n - (length ps + 1)) Empty)
    ∙ sym (ap (λ m. ps ++ replicate m Empty) more)

-- the place before the end is empty, and is left out
pub padded_less : (n i : ℕ) (ps : List Place) (d : Place) → 0 < i → i ≤ length ps → length ps ≡ n → get_or ps (i - 1) d ≡ Empty → padded n (take i ps) ≡ ps → padded n (take (i - 1) ps) ≡ ps
padded_less n i ps d positive h all e is = grind (arith, common_steps, take_more, length-take-le, padded_more)

place_of_rest : (ps : List Place) (i k : ℕ) → i < length ps → k ≢ i → place_at (take (i + 1) ps) k ≡ place_at (take i ps) k
place_of_rest ps i k h apart = search (rules, cases_lt, place_at-get_or, get_or-take, place_at-past, length-take-le)

place_here : (ps : List Place) (i : ℕ) (d : Place) → i < length ps → place_at (take (i + 1) ps) i ≡ get_or ps i d
place_here ps i d h = place_at-get_or (take (i + 1) ps) i ∙ get_or-take (i + 1) ps i Empty (omega arith) ∙ get_or_default ps i Empty d h

nothing_here : (ps : List Place) (i : ℕ) → i < length ps → place_at (take i ps) i ≡ Empty
nothing_here ps i h = place_at-past (take i ps) i (omega (arith, length-take-le i ps (omega arith)))

-- an empty place has no name
pub nameless : (kind : Kind) → name_by kind Empty ≡ None
nameless x = search rules

-- a place with a name more
pub named_more : (name_of : Place → Option (List ℕ)) (ps : List Place) (i : ℕ) (n : List ℕ) (t : NameMap) (d : Place) → name_of Empty ≡ None → i < length ps
    → IsIndexOf (name_at name_of (take i ps)) t → name_of (get_or ps i d) ≡ Some n → fin.get t n ≡ None → IsIndexOf (name_at name_of (take (i + 1) ps)) (fin.insert t n i)
named_more name_of ps i n t d nameless h index named absent = search (rules, nameless, index_put, nothing_here, place_here, place_of_rest)

-- a place without a name more
pub nameless_more : (name_of : Place → Option (List ℕ)) (ps : List Place) (i : ℕ) (t : NameMap) (d : Place) → name_of Empty ≡ None → i < length ps
    → IsIndexOf (name_at name_of (take i ps)) t → name_of (get_or ps i d) ≡ None → IsIndexOf (name_at name_of (take (i + 1) ps)) t
nameless_more name_of ps i t d nameless h index unnamed = search (rules, place_here, nothing_here, place_of_rest)

-- no place
pub named_none : (name_of : Place → Option (List ℕ)) (t : NameMap) → name_of Empty ≡ None → t ≡ fin.empty → IsIndexOf (name_at name_of []) t
named_none name_of t nameless e = record {
  there = λ n i f. let g = rw e at f in let none = fin.get-empty {X = ℕ} (slice_cmp nat_cmp) n in cc;
  named = λ n i f. let g : name_of Empty ≡ Some n = f in cc;
}

-- nothing was found
pub not_found : (o p : Option ℕ) (b : Bool) → o ≡ p → b ≡ is_some o → b ≡ false → p ≡ None
not_found x p b e f g = search rules
