-- Marks.
use Rattle.std.proofs.Common.{◌≡◌, ◌++◌, List, [], ◌∷◌, append_assoc}
use Rattle.lab_session.specs.declared.marks.Mark.{Mark}

-- a mark between others
pub one_between : (xs ys : List Mark) (m : Mark) → (xs ++ m ∷ []) ++ ys ≡ xs ++ m ∷ ys
one_between xs ys m = append_assoc xs (m ∷ []) ys
