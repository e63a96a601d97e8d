-- The values of a list as they are seen.
use Rattle.std.proofs.Common.{◌≡◌, ◌||◌, ◌&&◌, Bool, List, [], ◌∷◌, map, refl, ap}
use Rattle.std.specs.List.{list_any, list_all}
use Rattle.serde_json.specs.Data.{Data}
use Rattle.serde_json.specs.View.{view, items_of}
use Rattle.serde_json.specs.declared.value.Value.{Value}
use Rattle.lab_server.specs.Members.{all_of}

all_of-items : (ds : List Data) → all_of (items_of ds) ≡ ds
all_of-items [] = refl
all_of-items (d ∷ ds) = ap (λ xs. d ∷ xs) (all_of-items ds)

pub all_of_seen : (vs : List Value) → all_of (items_of (map view vs)) ≡ map view vs
all_of_seen vs = all_of-items (map view vs)

pub list_any_map : {X Y : Type 0} (p : Y → Bool) (f : X → Y) (xs : List X) → list_any p (map f xs) ≡ list_any (λ x. p (f x)) xs
list_any_map p f [] = refl
list_any_map p f (x ∷ xs) = ap (λ b. p (f x) || b) (list_any_map p f xs)

pub list_all_map : {X Y : Type 0} (p : Y → Bool) (f : X → Y) (xs : List X) → list_all p (map f xs) ≡ list_all (λ x. p (f x)) xs
list_all_map p f [] = refl
list_all_map p f (x ∷ xs) = ap (λ b. p (f x) && b) (list_all_map p f xs)
