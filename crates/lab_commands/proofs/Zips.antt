-- Two lists side by side.
use Rattle.std.proofs.Common.{◌≡◌, ◌⊎◌, inl, inr, List, [], ◌∷◌, arith, length, refl}
use Rattle.std.specs.List.{zip}

-- where one has nothing more, there is no pair more
pub zip_ended : {A B S T : Type 0} (xs : List A) (ys : List B) (a : S) (b : T)
    → ((s : S) × ((length xs ≡ 0) × (s ≡ a))) ⊎ ((t : T) × ((length ys ≡ 0) × (t ≡ b))) → zip xs ys ≡ []
zip_ended [] ys a b e = refl
zip_ended (x ∷ xs) [] a b e = refl
zip_ended (x ∷ xs) (y ∷ ys) a b (inl e) = absurd (omega (arith, e.1.0))
zip_ended (x ∷ xs) (y ∷ ys) a b (inr e) = absurd (omega (arith, e.1.0))
