-- All the faults of a text: those of its reading, which goes on behind a faulty line, and those of the labels that it names.
use Rattle.std.specs.Prelude.{ℕ, ◌+◌, Bool, true, false, ◌&&◌, ◌||◌, nat_le, Option, Some, None, Result, Ok, Err, List, [], ◌∷◌, ◌++◌, length, map, if◌then◌else◌}
use Rattle.std.specs.List.{list_any, flat_map}
use Rattle.lc3_table.specs.Tokens.{Token, tokens}
use Rattle.lc3_table.specs.Statements.{Line, Blank, LabelAlone, Operates, Operand, line, unless, option_or, token_operation, label_defined, ◌>>=◌}
use Rattle.lc3_word.specs.Segment.{first_device}
use Rattle.lc3_table.specs.Meaning.{words}
use Rattle.lc3_table.specs.declared.operation.Operation.{Operation}
use Rattle.lc3_table.specs.declared.operation.Fault.{Fault}
use Rattle.lc3_table.specs.declared.operation.Fault.TheVariants as fault
use Rattle.lc3_asm.specs.Texts.{Program, At, lines, is_origin, is_end, address_after, label_of, with_earlier, labels, value, is_duplicate, place_fault}
use Rattle.lc3_asm.specs.declared.passes.LineFault.{LineFault}

-- the lines that are read, each with a fault as what it counts as, and the faults found in them
pub record Reading : Type 0 where
  pub read : List (Line Operand)
  pub found : List LineFault

-- whether there is a fault
abbrev pub has_faults : List LineFault → Bool
has_faults [] = false
has_faults (f ∷ fs) = true

-- whether it is the fault of words that go beyond xFE00
abbrev pub is_too_long : Fault → Bool
is_too_long fault.TooLong = true
is_too_long _ = false

-- the second result where the first is the want of a `.ORIG`
abbrev pub unless_unstarted : Result (Line Operand) Fault → Result (Line Operand) Fault → Result (Line Operand) Fault
unless_unstarted (Err fault.NoOrig) r = r
unless_unstarted x r = x

-- a line, where a `.ORIG` stands before it or not; behind a fault no `.ORIG` is wanted, since the faulty line may be the one that was meant
abbrev pub line_behind : Bool → Bool → List ℕ → Result (Line Operand) Fault
line_behind true started bytes = unless_unstarted (line started bytes) (line true bytes)
line_behind false started bytes = line started bytes

-- a fault, unless it is `TooLong` behind a `TooLong`
abbrev pub told_once : List LineFault → Option Fault → Option Fault
told_once found (Some fault.TooLong) = if list_any (λ f. is_too_long f.kind) found then None else Some fault.TooLong
told_once found o = o

-- the next line behind these, or its first fault
abbrev pub outcome : Reading → List ℕ → Result (Line Operand) Fault
outcome r bytes =
    line_behind (has_faults r.found) (list_any is_origin r.read) bytes >>= λ l.
    unless (told_once r.found (place_fault r.read l)) (Ok l)

-- x21 to x7E as it is, and every other byte as a blank
abbrev pub printable_or_blank : ℕ → ℕ
printable_or_blank c = if nat_le 33 c && nat_le c 126 then c else 32

-- the operation or directive that the first token names, or else the second
abbrev pub operation_named : List Token → Option Operation
operation_named [] = None
operation_named (t ∷ []) = token_operation t
operation_named (t ∷ u ∷ ts) = option_or (token_operation t) (token_operation u)

-- a label that was read, unless one of these lines defines it
abbrev pub new_label : List (Line Operand) → Result (List ℕ) Fault → Option (List ℕ)
new_label before (Ok name) = if is_duplicate before (Some name) then None else Some name
new_label before (Err k) = None

-- the label with which these tokens begin, unless one of these lines defines it
abbrev pub label_begun : List (Line Operand) → List Token → Option (List ℕ)
label_begun before [] = None
label_begun before (t ∷ ts) = new_label before (label_defined t)

-- a line of this label, or none, and this operation without operands, or none
abbrev pub bare_line : Option (List ℕ) → Option Operation → Line Operand
bare_line label (Some o) = Operates label o []
bare_line (Some name) None = LabelAlone name
bare_line None None = Blank

-- what a faulty line with these tokens counts as: its label and its operation, which has one word
abbrev pub stand_in : List (Line Operand) → List Token → Line Operand
stand_in before ts = bare_line (label_begun before ts) (operation_named ts)

-- the line, or what the faulty line counts as
abbrev pub line_or : Result (Line Operand) Fault → Line Operand → Line Operand
line_or (Ok l) other = l
line_or (Err k) other = other

-- the line, or where its words would go beyond xFE00 its label alone
abbrev pub fitted : List (Line Operand) → Line Operand → Line Operand
fitted before l = if nat_le (address_after (before ++ l ∷ [])) first_device then l else bare_line (label_of l) None

-- what the next line counts as for those behind it
abbrev pub kept : Reading → List ℕ → Line Operand
kept r bytes = fitted r.read (line_or (outcome r bytes) (stand_in r.read (tokens (map printable_or_blank bytes))))

-- the fault of a line, where it has one
abbrev pub fault_of : {A : Type 0} → Result A Fault → Option Fault
fault_of (Ok x) = None
fault_of (Err k) = Some k

-- a fault, where there is one, with the number of its line
abbrev pub numbered : ℕ → Option Fault → List LineFault
numbered n None = []
numbered n (Some k) = record { line = n; kind = k } ∷ []

-- the lines with the next one, and its fault behind theirs
abbrev pub reading_with : Reading → List ℕ → Reading
reading_with r bytes = record { read = r.read ++ kept r bytes ∷ []; found = r.found ++ numbered (length r.read + 1) (fault_of (outcome r bytes)) }

-- the lines read so far and these, up to `.END`
abbrev pub reading_after : Reading → List (List ℕ) → Reading
reading_after r [] = r
reading_after r (bytes ∷ rest) = if is_end (kept r bytes) then reading_with r bytes else reading_after (reading_with r bytes) rest

-- the lines of a text, with the faults of its reading
abbrev pub reading : List ℕ → Reading
reading text = reading_after (record { read = []; found = [] }) (lines text)

-- the fault of a line, unless it is the distance of a label behind a fault of reading: there distances aren't known
abbrev pub unless_unknown : List LineFault → Option Fault → Option Fault
unless_unknown (f ∷ fs) (Some fault.OffsetRange) = None
unless_unknown found o = o

-- the fault of the label that a line names, where it has one
abbrev pub label_fault : Reading → List (Line Operand) × Line Operand → List LineFault
label_fault r e = numbered (length e.0 + 1) (unless_unknown r.found (fault_of (words (value (labels r.read)) (address_after e.0) e.1)))

-- the faults of the labels that the lines name
abbrev pub label_faults : Reading → List LineFault
label_faults r = flat_map (label_fault r) (with_earlier r.read)

-- the faults of a text of this many lines; one without a statement has `NoOrig` alone, at its last line
abbrev pub faults_of : ℕ → Reading → List LineFault
faults_of count r =
    if has_faults r.found || list_any is_origin r.read then r.found ++ label_faults r
    else record { line = count; kind = fault.NoOrig } ∷ []

-- All the faults of a text: those of its reading in the order of the lines, and then those of its labels.
abbrev pub faults : List ℕ → List LineFault
faults text = faults_of (length (lines text)) (reading text)

-- the fault for which a text is refused
abbrev pub refused_for : Result Program At → Option LineFault
refused_for (Ok p) = None
refused_for (Err e) = Some (record { line = e.line; kind = e.kind })
