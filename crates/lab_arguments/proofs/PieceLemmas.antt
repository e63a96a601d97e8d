-- Values and pieces, one by one.
use Rattle.std.proofs.Common.{ℕ, ◌≡◌, ◌<◌, ◌+◌, Bool, true, false, Bor, List, [], ◌∷◌, ◌++◌, get_or, length, take, filter, flat_map, map, cond, refl, sym, ap, ap₂, ◌∙◌}
use Rattle.std.proofs.lemmas.List.{take_more, flat_map_more, map-append}

-- one value more
pub flat_step : (pieces : List ℕ → List (List ℕ)) (old new xs : List (List ℕ)) (i : ℕ) (x : List ℕ) → new ≡ old ++ pieces x → old ≡ flat_map pieces (take i xs)
    → i < length xs → get_or xs i [] ≡ x → new ≡ flat_map pieces (take (i + 1) xs)
flat_step pieces old new xs i x added before within is =
    added ∙ ap (λ l. l ++ pieces x) before ∙ flat_map_more pieces [] (take i xs) x
    ∙ ap (flat_map pieces) (sym (take_more xs i [] within ∙ ap (λ y. take i xs ++ y ∷ []) is))

kept : (b : Bool) (x : Bor (List ℕ)) (xs : List (Bor (List ℕ))) (ys : List (List ℕ)) → map (λ p. p.now) xs ≡ ys → map (λ p. p.now) (cond b (x ∷ xs) xs) ≡ cond b (x.now ∷ ys) ys
kept true x xs ys same = ap (λ l. x.now ∷ l) same
kept false x xs ys same = same

-- the texts of pieces behind others
pub texts_with : (xs ys news : List (Bor (List ℕ))) (olds more : List (List ℕ)) → news ≡ xs ++ ys → map (λ y. y.now) ys ≡ more → map (λ x. x.now) xs ≡ olds
    → map (λ x. x.now) news ≡ olds ++ more
texts_with xs ys news olds more is read before =
    ap (map (λ (x : Bor (List ℕ)). x.now)) is ∙ map-append (λ (x : Bor (List ℕ)). x.now) xs ys ∙ ap₂ (λ a b. a ++ b) before read

-- the texts of the pieces that are chosen
pub texts_chosen : (p : List ℕ → Bool) (xs : List (Bor (List ℕ))) → map (λ x. x.now) (filter (λ x. p x.now) xs) ≡ filter p (map (λ x. x.now) xs)
texts_chosen p [] = refl
texts_chosen p (x ∷ xs) = kept (p x.now) x (filter (λ y. p y.now) xs) (filter p (map (λ y. y.now) xs)) (texts_chosen p xs)
