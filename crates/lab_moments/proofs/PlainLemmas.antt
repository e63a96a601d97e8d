-- Values without floats, whose JSON is told by a definition.
use Rattle.std.proofs.Common.{◌≡◌, ℕ, zero, suc, ◌||◌, Bool, true, false, if◌then◌else◌, Option, Some, None, List, [], ◌∷◌, ◌++◌, map, refl, ap, ◌∙◌}
use Rattle.std.specs.Prelude.{IfSome}
use Rattle.std.specs.Option.{option_map, option_to_list}
use Rattle.serde_json.specs.Data.{Data}
use Rattle.serde_json.specs.View.{items_of}
use Rattle.serde_json.specs.Written.{has_float, items_have_float}
use Rattle.lab_moments.specs.Values.{or_null, all_below}

-- a value without a float, and a list of such
abbrev pub IsPlain : Data → Type 0
IsPlain d = has_float d ≡ false

abbrev pub ArePlain : List Data → Type 0
ArePlain ds = items_have_float (items_of ds) ≡ false

pub both : (a b : Bool) → a ≡ false → b ≡ false → (a || b) ≡ false
both a b x y = ap (λ c. c || b) x ∙ y

apart : (a b : Bool) → (a || b) ≡ false → (a ≡ false) × (b ≡ false)
apart true b h = absurd (conflict h)
  where
    conflict : true ≡ false → ⊥
    conflict e = cc
apart false b h = (refl, h)

pub plain-append : (xs ys : List Data) → ArePlain xs → ArePlain ys → ArePlain (xs ++ ys)
plain-append [] ys x y = y
plain-append (d ∷ ds) ys x y =
    let parts = apart (has_float d) (items_have_float (items_of ds)) x in
    both (has_float d) (items_have_float (items_of (ds ++ ys))) parts.0 (plain-append ds ys parts.1 y)

pub plain-below : (n : ℕ) (f : ℕ → List Data) → ((i : ℕ) → ArePlain (f i)) → ArePlain (all_below n f)
unfolding all_below
plain-below zero f h = refl
plain-below (suc n) f h = plain-append (all_below n f) (f n) (plain-below n f h) (h n)

pub plain-map : {X : Type 0} (f : X → Data) (xs : List X) → ((x : X) → IsPlain (f x)) → ArePlain (map f xs)
plain-map f [] h = refl
plain-map f (x ∷ xs) h = both (has_float (f x)) (items_have_float (items_of (map f xs))) (h x) (plain-map f xs h)

pub plain-some : {X : Type 0} (f : X → Data) (o : Option X) → ((x : X) → IsPlain (f x)) → ArePlain (option_to_list (option_map f o))
plain-some f None h = refl
plain-some f (Some x) h = both (has_float (f x)) false (h x) refl

pub plain-or_null : {X : Type 0} (f : X → Data) (o : Option X) → ((x : X) → IsPlain (f x)) → IsPlain (or_null (option_map f o))
plain-or_null f None h = refl
plain-or_null f (Some x) h = h x

pub plain-if : (b : Bool) (xs ys : List Data) → ArePlain xs → ArePlain ys → ArePlain (if b then xs else ys)
plain-if true xs ys x y = x
plain-if false xs ys x y = y

pub value-if : (b : Bool) (d e : Data) → IsPlain d → IsPlain e → IsPlain (if b then d else e)
value-if true d e x y = x
value-if false d e x y = y

-- for a value that is made of parts
pub ruleset plain = (both, plain-append, plain-below, plain-map, plain-some, plain-or_null, plain-if, value-if)

-- a value that is kept, where there is one
pub plain-back : {X : Type 0} (f : X → Data) (o : Option X) (ds : List Data) → option_to_list (option_map f o) ≡ ds → ArePlain ds → IfSome o (λ x. IsPlain (f x))
plain-back f None ds e h = tt
plain-back f (Some x) ds e h = (apart (has_float (f x)) false (ap (λ (l : List Data). items_have_float (items_of l)) e ∙ h)).0
