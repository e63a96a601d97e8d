-- The tables of a reader that goes on behind faults.
use Rattle.std.specs.Prelude.{ℕ, ◌≡◌, ◌≤◌, ◌+◌, sum_by, List, Bool}
use Rattle.std.specs.List.{list_any}
use Rattle.lc3_table.specs.Statements.{Line, Operand}
use Rattle.lc3_table.specs.Meaning.{size}
use Rattle.lc3_asm.specs.Texts.{labels, is_origin, origin}
use Rattle.lc3_asm.specs.Addresses.{addresses}
use Rattle.lc3_word.specs.Segment.{first_device}

-- the tables of the lines read so far
pub record AreTables (symbols : List (List ℕ × ℕ)) (places : List ℕ) (started : Bool) (first : ℕ) (count : ℕ) (lines : List (Line Operand)) : Type 0 where
  pub symbols_are : symbols ≡ labels lines
  pub places_are : places ≡ addresses lines
  pub started_is : started ≡ list_any is_origin lines
  pub first_is : first ≡ origin lines
  pub count_is : count ≡ sum_by size lines
  pub fits : first + count ≤ first_device
