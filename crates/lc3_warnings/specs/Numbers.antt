-- Numbers of fields that mean other numbers.
use Rattle.std.specs.Prelude.{ℕ, ◌-◌, ℤ, pos, nat_abs, Bool, false, not, ◌&&◌, ◌||◌, ◌==◌, Option, Some, None, List, [], ◌∷◌, length, slice_get, if◌then◌else◌}
use Rattle.std.specs.Ordering.{int_eq}
use Rattle.lc3_word.specs.Words.{low_bits, signed_value}
use Rattle.lc3_word.specs.Numbers.{is_x, is_b, begins_with_x}
use Rattle.lc3_table.specs.declared.operation.Operation.{Operation}
use Rattle.lc3_table.specs.declared.operation.Operation.TheVariants as op
use Rattle.lc3_table.specs.declared.operation.Form.{Form}
use Rattle.lc3_table.specs.declared.operation.Form.TheVariants as form
use Rattle.lc3_table.specs.Tokens.{Token, Word, tokens}
use Rattle.lc3_table.specs.Statements.{Line, Operates, Operand, Number, forms, option_or, is_between}
use Rattle.lc3_warnings.specs.Flows.{is_known_trap}
use Rattle.lc3_warnings.specs.declared.texts.Kind.{Kind}
use Rattle.lc3_warnings.specs.declared.texts.Kind.TheVariants as kind

-- whether a number is written in hexadecimal or binary digits
unfoldable pub is_in_digits_of_bits : List ℕ → Bool
is_in_digits_of_bits [] = false
is_in_digits_of_bits (c ∷ cs) = (is_x c || is_b c) || (c == 48 && begins_with_x cs)

-- the signed value of a field of this many bits that holds a number
unfoldable pub field_value : ℕ → ℤ → ℤ
field_value bits z = signed_value bits (low_bits 16 z)

-- whether a number is the bits of this value in such a field, or in a word
unfoldable pub is_bits_of : ℕ → ℤ → ℤ → Bool
is_bits_of bits value z = int_eq z (pos (low_bits bits value)) || int_eq z (pos (low_bits 16 value))

-- the value of the field, unless it is the number, or the number is written as its bits
abbrev pub wrapped : ℕ → List ℕ → ℤ → Option ℤ
wrapped bits word z =
    if int_eq z (field_value bits z) || (is_in_digits_of_bits word && is_bits_of bits (field_value bits z) z) then None
    else Some (field_value bits z)

-- the same in a field of this form; only signed fields wrap
abbrev pub wrapped_in : Form → List ℕ → ℤ → Option ℤ
wrapped_in form.RegisterOrImmediate word z = wrapped 5 word z
wrapped_in form.Offset word z = wrapped 6 word z
wrapped_in form.Target word z = wrapped 9 word z
wrapped_in form.FarTarget word z = wrapped 11 word z
wrapped_in f word z = None

-- the number that an operand is
abbrev pub number_in : Operand → Option ℤ
number_in (Number z) = Some z
number_in x = None

-- the number among operands
abbrev pub number_among : List Operand → Option ℤ
number_among [] = None
number_among (x ∷ xs) = option_or (number_in x) (number_among xs)

-- what stands as the last operand, which alone can be a number
abbrev pub last_form : Operation → Option Form
last_form o = slice_get (forms o) (length (forms o) - 1)

-- the last word of these tokens, or else this one
abbrev pub last_word : List ℕ → List Token → List ℕ
last_word w [] = w
last_word w (Word v ∷ ts) = last_word v ts
last_word w (t ∷ ts) = last_word w ts

-- the warning that a field of this form has this value
abbrev pub wraps_to : Form → Option ℤ → Option Kind
wraps_to f None = None
wraps_to f (Some value) = Some (kind.Wraps f value)

-- the warning of a number which this word writes, in a field of this form
abbrev pub wraps_as : Form → List ℕ → ℤ → Option Kind
wraps_as f word z = wraps_to f (wrapped_in f word z)

-- the warning of the number, if there is one
abbrev pub wraps_placed : List ℕ → Option ℤ → Option Form → Option Kind
wraps_placed word None f = None
wraps_placed word (Some z) None = None
wraps_placed word (Some z) (Some f) = wraps_as f word z

-- A number in a signed field means another one. (It is the last word of its line.)
abbrev pub wraps : List ℕ → Line Operand → Option Kind
wraps bytes (Operates l o xs) = wraps_placed (last_word [] (tokens bytes)) (number_among xs) (last_form o)
wraps bytes _ = None

-- A TRAP has a vector that no trap has.
abbrev pub unknown_trap : Line Operand → Option Kind
unknown_trap (Operates l op.Trap (Number z ∷ xs)) = if is_known_trap z then None else Some kind.UnknownTrap
unknown_trap _ = None

-- the warning of an address which this word writes
abbrev pub decimal_as : List ℕ → ℤ → Option Kind
decimal_as word z =
    if is_between (pos 10) (pos 4095) z && not (is_in_digits_of_bits word) then Some (kind.DecimalOrigin (nat_abs z)) else None

-- `.ORIG` has a decimal number from 10 to 4,095, so below x1000. (It is the last word of its line.)
abbrev pub decimal_origin : List ℕ → Line Operand → Option Kind
decimal_origin bytes (Operates l op.Origin (Number z ∷ xs)) = decimal_as (last_word [] (tokens bytes)) z
decimal_origin bytes _ = None
