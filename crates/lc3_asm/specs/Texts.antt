-- A source text: its lines, the addresses of its labels, its words, or its first fault.
use Rattle.std.specs.Prelude.{ℕ, ◌≡◌, ◌+◌, nat_abs, Bool, true, false, ◌==◌, nat_le, bytes_eq, sum_by, Option, Some, None, is_some, unwrap_or, Result, Ok, Err, List, [], ◌∷◌, ◌++◌, length, map, if◌then◌else◌}
use Rattle.std.specs.List.{list_any, slice_split, flat_map}
use Rattle.std.specs.Map.{lookup}
use Rattle.lc3_table.specs.Statements.{Line, Blank, LabelAlone, Operates, Operand, Number, line, unless, option_or, ◌>>=◌}
use Rattle.lc3_word.specs.Segment.{Segment, first_device}
use Rattle.lc3_table.specs.Meaning.{size, words}
use Rattle.lc3_asm.specs.declared.assembled.Row.{Row}
use Rattle.lc3_table.specs.declared.operation.Operation.TheVariants as op
use Rattle.lc3_table.specs.declared.operation.Fault.{Fault}
use Rattle.lc3_table.specs.declared.operation.Fault.TheVariants as fault
use Rattle.lc3_asm.specs.declared.passes.AsmFault.{AsmFault}
use Rattle.lc3_asm.specs.declared.passes.AsmFault.TheVariants as faults

-- the lines of a text, which end at line feeds
abbrev pub lines : List ℕ → List (List ℕ)
lines text = slice_split (λ c. c == 10) text

-- the number that the line names, if it is a `.ORIG`
abbrev pub origin_named : Line Operand → Option ℕ
origin_named (Operates l op.Origin (Number z ∷ xs)) = Some (nat_abs z)
origin_named (Operates l op.Origin xs) = Some 0
origin_named _ = None

-- whether the line is a `.ORIG`
abbrev pub is_origin : Line Operand → Bool
is_origin l = is_some (origin_named l)

-- whether the line is `.END`
abbrev pub is_end : Line Operand → Bool
is_end (Operates l op.End xs) = true
is_end _ = false

-- the number that the first `.ORIG` among these lines names
abbrev pub origin : List (Line Operand) → ℕ
origin [] = 0
origin (l ∷ ls) = unwrap_or (origin_named l) (origin ls)

-- the address after these lines: the origin and the sizes of them all
abbrev pub address_after : List (Line Operand) → ℕ
address_after ls = origin ls + sum_by size ls

-- the label that a line defines
abbrev pub label_of : Line Operand → Option (List ℕ)
label_of Blank = None
label_of (LabelAlone name) = Some name
label_of (Operates label o xs) = label

-- a label with an address, where there is one
abbrev pub entry : Option (List ℕ) → ℕ → List (List ℕ × ℕ)
entry None address = []
entry (Some name) address = (name, address) ∷ []

-- these lines, which stand behind those before, each behind all that stand before it
abbrev pub lines_behind : List (Line Operand) → List (Line Operand) → List (List (Line Operand) × Line Operand)
lines_behind before [] = []
lines_behind before (l ∷ ls) = (before, l) ∷ lines_behind (before ++ l ∷ []) ls

-- each of these lines, behind those before it
abbrev pub with_earlier : List (Line Operand) → List (List (Line Operand) × Line Operand)
with_earlier ls = lines_behind [] ls

-- the label that a line defines, if it does, with the line's address, which is that after the lines before it
abbrev pub label_at : List (Line Operand) × Line Operand → List (List ℕ × ℕ)
label_at e = entry (label_of e.1) (address_after e.0)

-- the labels of these lines in the order of their definitions
abbrev pub labels : List (Line Operand) → List (List ℕ × ℕ)
labels ls = flat_map label_at (with_earlier ls)

-- the value of a label: the address of the line that defines it
abbrev pub value : List (List ℕ × ℕ) → List ℕ → Option ℕ
value known name = lookup (bytes_eq name) known

-- a line's words, with its number and its address
pub record LineWords : Type 0 where
  pub line : ℕ
  pub address : ℕ
  pub words : List ℕ

-- whether one of these lines defines this label
abbrev pub is_duplicate : List (Line Operand) → Option (List ℕ) → Bool
is_duplicate before None = false
is_duplicate before (Some name) = is_some (value (labels before) name)

-- what is wrong with a line after these, as far as its label and its place go
abbrev pub place_fault : List (Line Operand) → Line Operand → Option Fault
place_fault before l =
    option_or (if is_duplicate before (label_of l) then Some fault.DuplicateLabel else None)
    (if nat_le (address_after (before ++ l ∷ [])) first_device then None else Some fault.TooLong)

-- a fault, and the number of its line, from 1
pub record At : Type 0 where
  pub line : ℕ
  pub kind : Fault

-- with the number of the line where it is wrong
abbrev pub at_line : {A : Type 0} → ℕ → Result A Fault → Result A At
at_line n (Ok x) = Ok x
at_line n (Err e) = Err (record { line = n; kind = e })

-- a line after these, or its first fault
abbrev pub line_after : List (Line Operand) → List ℕ → Result (Line Operand) Fault
line_after before bytes = line (list_any is_origin before) bytes >>= λ l. unless (place_fault before l) (Ok l)

-- the lines before and these, up to `.END`; or the least line with a fault, and its first fault
abbrev pub lines_after : List (Line Operand) → List (List ℕ) → Result (List (Line Operand)) At
lines_after before [] = Ok before
lines_after before (bytes ∷ rest) =
    at_line (length before + 1) (line_after before bytes) >>= λ l.
    if is_end l then Ok (before ++ l ∷ []) else lines_after (before ++ l ∷ []) rest

-- the words of a line behind those before it, or why it has none: it names a label without a value, or one too far away
abbrev pub words_at : List (List ℕ × ℕ) → List (Line Operand) × Line Operand → Result LineWords At
words_at known e =
    at_line (length e.0 + 1) (words (value known) (address_after e.0) e.1) >>= λ ws.
    Ok (record { line = length e.0 + 1; address = address_after e.0; words = ws })

-- the values of all these results, or the first error among them
abbrev pub all_ok : {A E : Type 0} → List (Result A E) → Result (List A) E
all_ok [] = Ok []
all_ok (r ∷ rs) = r >>= λ x. (all_ok rs >>= λ xs. Ok (x ∷ xs))

-- the words of each of these lines, or the least line that has none
abbrev pub words_of_lines : List (List ℕ × ℕ) → List (Line Operand) → Result (List LineWords) At
words_of_lines known ls = all_ok (map (words_at known) (with_earlier ls))

-- the row of a line with this many words, if it has any
abbrev pub row : ℕ → ℕ → ℕ → List Row
row line address count = if count == 0 then [] else record { line = line; address = address; count = count } ∷ []

-- the words of all the lines, in order
abbrev pub words_of : List LineWords → List ℕ
words_of ls = flat_map (λ (l : LineWords). l.words) ls

-- the rows of the lines that have words
abbrev pub rows_of : List LineWords → List Row
rows_of ls = flat_map (λ (l : LineWords). row l.line l.address (length l.words)) ls

-- an accepted text: its image, its labels with their values, and the rows of the lines that have words
pub record Program : Type 0 where
  pub image : Segment
  pub symbols : List (List ℕ × ℕ)
  pub rows : List Row

-- the program of these lines with these words
abbrev pub program_with_words : List (Line Operand) → List LineWords → Program
program_with_words ls made = record { image = record { origin = origin ls; words = words_of made }; symbols = labels ls; rows = rows_of made }

-- the program of lines that could all be read, or the least line whose label has no value or is too far away
abbrev pub program_of : List (Line Operand) → Result Program At
program_of ls = words_of_lines (labels ls) ls >>= λ made. Ok (program_with_words ls made)

-- the same for a text of this many lines; without a `.ORIG` the fault is the last line's
abbrev pub program_of_lines : ℕ → List (Line Operand) → Result Program At
program_of_lines count ls = if list_any is_origin ls then program_of ls else Err (record { line = count; kind = fault.NoOrig })

-- the lines of a text up to `.END`; or the least line that can't be read, and its first fault
abbrev pub lines_read : List ℕ → Result (List (Line Operand)) At
lines_read text = lines_after [] (lines text)

-- What a source text says, or its fault.
abbrev pub program : List ℕ → Result Program At
program text = lines_read text >>= λ ls. program_of_lines (length (lines text)) ls

-- the fault that the definition gives; of want of memory nothing is said
abbrev pub IsFault : {A : Type 0} → AsmFault → Result A At → Type 0
IsFault faults.NoMemory read = Unit {0}
IsFault (faults.At n k) read = read ≡ Err (record { line = n; kind = k })
