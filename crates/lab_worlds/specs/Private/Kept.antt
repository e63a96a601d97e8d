-- Lists of which nothing is lost.
use Rattle.std.specs.Prelude.{ℕ, ◌≡◌, List, Some, slice_get}

-- what stands at a place of the one stands there in the other
abbrev pub Keeps : {A : Type 0} → List A → List A → Type 0
Keeps {A} xs ys = (i : ℕ) (x : A) → slice_get xs i ≡ Some x → slice_get ys i ≡ Some x
