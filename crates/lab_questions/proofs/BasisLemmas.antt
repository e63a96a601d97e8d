-- What the parts of a condition rest on, one after the other.
use Rattle.std.proofs.Common.{ℕ, ◌≡◌, ◌<◌, ◌≤◌, ◌+◌, ◌++◌, ◌∙◌, List, [], ◌∷◌, All, Contains, None, Some, flat_map, get_or, length, map, slice_get, take, unwrap_or, arith, ap, ap₂, subst, sym}
use Rattle.std.specs.List.{enumerate_from}
use Rattle.std.specs.Prelude.{option_map}
use Rattle.std.proofs.lemmas.List.{take_all, take_more}
use Rattle.std.proofs.lemmas.List.FromFn.{get_or-enumerate_from, length-enumerate_from}
use Rattle.std.proofs.lemmas.List.Elements.{All-push}
use Rattle.std.proofs.lemmas.Option.{slice_get-get_or, slice_get-map, unwrap_or-slice_get}
use Rattle.lab_conditions.specs.declared.condition.Part.{Part}
use Rattle.lab_questions.specs.declared.bases.Basis.{Basis}
use Rattle.lab_questions.specs.Bases.{bases_in, place_typed}
use Rattle.lab_questions.proofs.ListLemmas.{flat_map-next}

-- what a part with this number rests on
abbrev pub typed_by : List (List (List ℕ)) → ℕ × Part → List Basis
typed_by pieces e = bases_in (place_typed (get_or pieces e.0 [])) e.1

-- one part more
pub typed_next : (pieces : List (List (List ℕ))) (parts : List Part) (front : List Basis) (i : ℕ) (part : Part) → i < length parts → part ≡ get_or parts i part
    → (front ++ flat_map (typed_by pieces) (take i (enumerate_from 0 parts))) ++ bases_in (place_typed (get_or pieces i [])) part
    ≡ front ++ flat_map (typed_by pieces) (take (i + 1) (enumerate_from 0 parts))
typed_next pieces parts front i part within is =
    let counted = enumerate_from 0 parts in
    let first : 0 + i ≡ i = omega arith in
    let here : get_or counted i (i, part) ≡ (i, part) = get_or-enumerate_from 0 parts i (i, part) within ∙ ap₂ (λ (n : ℕ) (p : Part). (n, p)) first (sym is) in
    let at : slice_get counted i ≡ Some (i, part) = slice_get-get_or counted i (i, part) (omega (arith, within, length-enumerate_from 0 parts)) ∙ ap Some here in
    flat_map-next (typed_by pieces) front counted i (i, part) at

-- all parts
pub typed_all : (pieces : List (List (List ℕ))) (parts : List Part) (i : ℕ) → length parts ≤ i
    → flat_map (typed_by pieces) (take i (enumerate_from 0 parts)) ≡ flat_map (typed_by pieces) (enumerate_from 0 parts)
typed_all pieces parts i past = ap (flat_map (typed_by pieces)) (take_all i (enumerate_from 0 parts) (omega (arith, past, length-enumerate_from 0 parts)))

-- no words stand behind the last part
pub none_past : {X : Type 0} (f : X → List (List ℕ)) (xs : List X) (i : ℕ) → slice_get xs i ≡ None → get_or (map f xs) i [] ≡ []
none_past f xs i none = sym (unwrap_or-slice_get (map f xs) i []) ∙ ap (λ o. unwrap_or o []) (slice_get-map f xs i ∙ ap (option_map f) none)

-- one more isn't among the others
pub others_next : (others bases : List Basis) (i : ℕ) (b : Basis) → i < length bases → b ≡ get_or bases i b → (Contains others b → ⊥)
    → All (λ b. Contains others b → ⊥) (take i bases) → All (λ b. Contains others b → ⊥) (take (i + 1) bases)
others_next others bases i b within is absent before =
    subst (All (λ b. Contains others b → ⊥)) (sym (take_more bases i b within ∙ ap (λ x. take i bases ++ x ∷ []) (sym is)))
    (All-push (λ b. Contains others b → ⊥) (take i bases) b before absent)

-- the same of lists that are the same
pub none_among : (others empty bases asked : List Basis) → others ≡ empty → bases ≡ asked → All (λ b. Contains others b → ⊥) bases
    → All (λ b. Contains empty b → ⊥) asked
none_among others empty bases asked same is none =
    subst (All (λ b. Contains empty b → ⊥)) is (subst (λ (xs : List Basis). All (λ b. Contains xs b → ⊥) bases) same none)
