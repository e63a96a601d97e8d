-- Labels, as the code keeps them.
use Rattle.std.specs.Prelude.{ℕ, List, Bool, is_some}
use Rattle.lc3_asm.specs.Texts.{value}

-- whether the label is there
abbrev pub is_defined : List (List ℕ × ℕ) → List ℕ → Bool
is_defined known name = is_some (value known name)
