-- Texts in the order of their bytes.
use Rattle.std.specs.Prelude.{ℕ, Bool, List}
use Rattle.std.specs.Cmp.Lexicographic.{slice_cmp}
use Rattle.std.specs.Ordering.{nat_cmp, is_lt}

-- whether a text comes before another
abbrev pub comes_before : List ℕ → List ℕ → Bool
comes_before t u = is_lt (slice_cmp nat_cmp t u)
