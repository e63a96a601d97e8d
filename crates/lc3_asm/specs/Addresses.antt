-- The addresses of a text's lines.
use Rattle.std.specs.Prelude.{ℕ, List, map}
use Rattle.lc3_table.specs.Statements.{Line, Operand}
use Rattle.lc3_asm.specs.Texts.{address_after, with_earlier}

-- the addresses of the lines of a text
abbrev pub addresses : List (Line Operand) → List ℕ
addresses ls = map (λ (e : List (Line Operand) × Line Operand). address_after e.0) (with_earlier ls)
