-- The labels that lines name, and the label that no line names.
use Rattle.std.specs.Prelude.{ℕ, Bool, true, false, not, ◌||◌, bytes_eq, codes, Option, Some, None, is_some, Result, Ok, Err, List, [], ◌∷◌, ◌==◌, ◌-◌, length, map, get_or, slice_index, if◌then◌else◌}
use Rattle.std.specs.List.{list_any}
use Rattle.lc3_table.specs.declared.operation.Operation.TheVariants as op
use Rattle.lc3_table.specs.Tokens.{Token, Word, tokens}
use Rattle.lc3_table.specs.Statements.{Line, LabelAlone, Operates, Operand, Label, option_or, label_defined}
use Rattle.lc3_table.specs.declared.operation.Fault.{Fault}
use Rattle.lc3_asm.specs.Texts.{label_of}
use Rattle.lc3_asm.specs.Faults.{printable_or_blank}
use Rattle.lc3_asm.specs.declared.passes.LineFault.{LineFault}
use Rattle.lc3_spelling.specs.Edits.{near_edits}
use Rattle.lc3_warnings.specs.Calls.{call_named}
use Rattle.lc3_warnings.specs.declared.flow.Flow.{Flow}
use Rattle.lc3_warnings.specs.declared.flow.Flow.TheVariants.{GoesOn, Stops}
use Rattle.lc3_warnings.specs.declared.flow.Next.{Next}
use Rattle.lc3_warnings.specs.declared.walk.Around.{Around}
use Rattle.lc3_warnings.specs.declared.texts.Kind.{Kind}
use Rattle.lc3_warnings.specs.declared.texts.Kind.TheVariants as kind

-- whether an operand is this label
abbrev pub is_label : List ℕ → Operand → Bool
is_label name (Label n) = bytes_eq name n
is_label name x = false

-- whether a line names this label
abbrev pub names_label : List ℕ → Line Operand → Bool
names_label name (Operates l o xs) = list_any (is_label name) xs
names_label name _ = false

-- whether a line is a JSR that names this label
abbrev pub calls_label : List ℕ → Line Operand → Bool
calls_label name (Operates l op.JumpSubroutine xs) = list_any (is_label name) xs
calls_label name _ = false

-- the labels that lines name
abbrev pub named : List (Line Operand) → List ℕ → Bool
named ls name = list_any (names_label name) ls

-- the labels that JSRs name, so where subroutines begin
abbrev pub called : List (Line Operand) → List ℕ → Bool
called ls name = list_any (calls_label name) ls

-- whether a label, if there is one, is one of these
abbrev pub is_one_of : (List ℕ → Bool) → Option (List ℕ) → Bool
is_one_of labels None = false
is_one_of labels (Some name) = labels name

-- whether a line defines one of these labels
abbrev pub defines_one : (List ℕ → Bool) → Line Operand → Bool
defines_one labels l = is_one_of labels (label_of l)

-- the names of the operations and directives without operands
abbrev pub bare_operations : List (List ℕ)
bare_operations =
    codes "RET" ∷ codes "RTI" ∷ codes "NOP" ∷ codes "GETC" ∷ codes "OUT" ∷ codes "PUTS" ∷ codes "IN" ∷ codes "PUTSP"
    ∷ codes "HALT" ∷ codes ".END" ∷ []

-- whether a name is spelled nearly like one of those
unfoldable pub is_near : List ℕ → Bool
is_near name = list_any (λ o. is_some (near_edits name o)) bare_operations

-- whether these tokens are a single word, without `:`
abbrev pub is_word_alone : List Token → Bool
is_word_alone (Word w ∷ []) = not (slice_index w (length w - 1) == 58)
is_word_alone ts = false

-- what a name was rather meant as: the call with this vector, or an operation that is spelled nearly so
abbrev pub call_or_operation : Option ℕ → List ℕ → Option Kind
call_or_operation (Some vector) name = Some (kind.CallName vector)
call_or_operation None name = if is_near name then Some kind.Misspelt else None

-- what a line that nothing names was rather meant as, if it is a label alone, without `:`
abbrev pub meaning : List ℕ → Line Operand → Option Kind
meaning bytes (LabelAlone name) = if is_word_alone (tokens bytes) then call_or_operation (call_named name) name else None
meaning bytes _ = None

-- whether a label that was read is this one
abbrev pub is_read_as : List ℕ → Result (List ℕ) Fault → Bool
is_read_as name (Ok n) = bytes_eq name n
is_read_as name (Err k) = false

-- whether a token is this label, in either case, with `:` or without
abbrev pub is_mention : List ℕ → Token → Bool
is_mention name t = is_read_as name (label_defined t)

-- whether a word of a faulty line is this label
abbrev pub mentions : List ℕ → List ℕ → Bool
mentions name bytes = list_any (is_mention name) (tokens (map printable_or_blank bytes))

-- the bytes of the line of a fault
abbrev pub faulty_line : List (List ℕ) → LineFault → List ℕ
faulty_line texts f = get_or texts (f.line - 1) []

-- the labels that are words of the lines with these faults
abbrev pub mentioned : List (List ℕ) → List LineFault → List ℕ → Bool
mentioned texts fs name = list_any (mentions name) (map (faulty_line texts) fs)

-- whether execution goes on from an instruction to an instruction
abbrev pub goes_on_to : Option Flow → Option Flow → Bool
goes_on_to (Some GoesOn) (Some GoesOn) = true
goes_on_to (Some GoesOn) (Some Stops) = true
goes_on_to before behind = false

-- whether a label between such lines may be there for the reader: nothing with words stands before it, or
-- execution goes on there
abbrev pub is_for_reader : Option Flow → Option Flow → Bool
is_for_reader None behind = true
is_for_reader (Some before) behind = goes_on_to (Some before) behind

-- what the next line with words is to execution
abbrev pub flow_behind : Option Next → Option Flow
flow_behind None = None
flow_behind (Some n) = Some n.flow

-- what the first line with words from a line on is to execution
abbrev pub flow_from : Around → Option Flow
flow_from a = option_or a.here (flow_behind a.next)

-- whether the label of a line that stands so may be there for the reader
abbrev pub may_be_for_reader : Around → Bool
may_be_for_reader a = is_for_reader a.previous (flow_from a)

-- the warning of a label that isn't one of those that are named, of a line that stands so
abbrev pub unused : (List ℕ → Bool) → List ℕ → Line Operand → Around → Option (List ℕ) → Option Kind
unused labels bytes l a None = None
unused labels bytes l a (Some name) =
    if labels name || may_be_for_reader a || is_some (meaning bytes l) then None else Some kind.UnusedLabel

-- No line names the label of the line.
abbrev pub unused_label : (List ℕ → Bool) → List ℕ → Line Operand → Around → Option Kind
unused_label labels bytes l a = unused labels bytes l a (label_of l)

-- the warning of a label that was meant otherwise, where it isn't one of those that are named or mentioned
abbrev pub misread : (List ℕ → Bool) → (List ℕ → Bool) → List ℕ → Line Operand → Option (List ℕ) → Option Kind
misread labels mentions bytes l None = None
misread labels mentions bytes l (Some name) =
    if labels name || mentions name then None else meaning bytes l

-- A label alone, without `:`, that no line names, that is no word of a faulty line, and that is the name of a call or
-- spelled nearly like an operation without operands. (The label of a faulty line is a word of that line itself.)
abbrev pub other_meaning : (List ℕ → Bool) → (List ℕ → Bool) → List ℕ → Line Operand → Option Kind
other_meaning labels mentions bytes l = misread labels mentions bytes l (label_of l)
