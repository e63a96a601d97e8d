-- Loops over lists.
use Rattle.std.proofs.Common.{ℕ, ◌<◌, ◌≤◌, ◌+◌, List, All, length, take, get_or, subst, sym}
use Rattle.std.proofs.lemmas.List.{take_more, take_all}
use Rattle.std.proofs.lemmas.List.Elements.{All-push}

-- one element more
pub all_more : {X : Type 0} (P : X → Type 0) (xs : List X) (i : ℕ) → i < length xs → All P (take i xs) → ((d : X) → P (get_or xs i d)) → All P (take (i + 1) xs)
all_more P xs i within before last = λ k d h. (subst (All P) (sym (take_more xs i d within)) (All-push P (take i xs) (get_or xs i d) before (last d))) k d h

-- all elements
pub all_whole : {X : Type 0} (P : X → Type 0) (xs : List X) (i : ℕ) → length xs ≤ i → All P (take i xs) → All P xs
all_whole P xs i past before = subst (All P) (take_all i xs past) before
