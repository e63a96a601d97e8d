-- Words of strings that are loaded where their addresses are meant.
use Rattle.std.specs.Prelude.{ℕ, Bool, true, false, not, ◌&&◌, ◌||◌, ◌==◌, bytes_eq, Option, Some, None, is_some, List, [], ◌∷◌, if◌then◌else◌}
use Rattle.lc3_table.specs.declared.operation.Operation.TheVariants as op
use Rattle.lc3_table.specs.Statements.{Line, Operates, Operand, Register, Label}
use Rattle.lc3_asm.specs.Texts.{label_of}
use Rattle.lc3_warnings.specs.Flows.{flow_of, first_with_words}
use Rattle.lc3_warnings.specs.Labels.{is_one_of}
use Rattle.lc3_warnings.specs.declared.flow.Next.{Next}
use Rattle.lc3_warnings.specs.declared.walk.Around.{Around}
use Rattle.lc3_warnings.specs.declared.texts.Kind.{Kind}
use Rattle.lc3_warnings.specs.declared.texts.Kind.TheVariants as kind

-- whether the first line with words from this one on is a .STRINGZ, where that is so or not behind it
abbrev pub is_string_from : Line Operand → Bool → Bool
is_string_from (Operates l op.Text xs) behind = true
is_string_from l behind = behind && not (is_some (flow_of l))

-- whether the first of these lines with words is a .STRINGZ
abbrev pub begin_string : List (Line Operand) → Bool
begin_string [] = false
begin_string (l ∷ ls) = is_string_from l (begin_string ls)

-- whether a line has this label
abbrev pub has_label : List ℕ → Line Operand → Bool
has_label name l = is_one_of (bytes_eq name) (label_of l)

-- the labels at whose address a string begins
abbrev pub strings : List (Line Operand) → List ℕ → Bool
strings [] name = false
strings (l ∷ ls) name = strings ls name || (begin_string (l ∷ ls) && has_label name l)

-- whether operands are a register and one of these labels
abbrev pub are_register_and : (List ℕ → Bool) → ℕ → List Operand → Bool
are_register_and labels r (Register s ∷ Label name ∷ []) = s == r && labels name
are_register_and labels r xs = false

-- whether a line puts the address of one of these labels into a register
abbrev pub has_address : (List ℕ → Bool) → ℕ → Option (Line Operand) → Bool
has_address labels r (Some (Operates l op.LoadAddress xs)) = are_register_and labels r xs
has_address labels r l = false

-- whether the operands of an LDR are R0 and a register with such an address, which the lines above put there
abbrev pub are_base_of : (List ℕ → Bool) → List Operand → List (Line Operand) → Bool
are_base_of labels (Register s ∷ Register r ∷ xs) above = s == 0 && has_address labels r (first_with_words above)
are_base_of labels xs above = false

-- whether a line below these, the nearest first, loads a word into R0 that stands at such a label or is reached by it
abbrev pub loads_word_of : (List ℕ → Bool) → Line Operand → List (Line Operand) → Bool
loads_word_of labels (Operates l op.Load xs) above = are_register_and labels 0 xs
loads_word_of labels (Operates l op.LoadIndirect xs) above = are_register_and labels 0 xs
loads_word_of labels (Operates l op.LoadBaseOffset xs) above = are_base_of labels xs above
loads_word_of labels l above = false

-- the warning of a line before one that prints the string at the address in R0
abbrev pub printed_by : Option Next → Option Kind
printed_by None = None
printed_by (Some n) = if n.prints then Some (kind.LoadedString n.line) else None

-- LD, LDI or LDR loads a word of a string into R0, and the next line with words is PUTS or PUTSP.
abbrev pub loaded_string : (List ℕ → Bool) → Line Operand → Around → List (Line Operand) → Option Kind
loaded_string labels l a above = if loads_word_of labels l above then printed_by a.next else None
