-- What is known of a line that was read: it stands where it may, and its operands fit their forms.
use Rattle.std.proofs.Common.{◌≡◌, ℕ, ◌-◌, Bool, true, false, List, [], ◌∷◌, length, refl, Some, None, Option, arith, rules}
use Rattle.std.specs.Prelude.{Ok, ◌&&◌, ◌==◌, nat_lt, nat_le}
use Rattle.std.specs.Char.{to_ascii_uppercase}
use Rattle.std.proofs.lemmas.Bool.{and_parts, leb-true, lt-ltb}
use Rattle.std.proofs.lemmas.Bool.Decides.{nat_tests}
use Rattle.std.proofs.lemmas.Option.{cond_some}
use lib.IntN.{ℤ}
use Rattle.lc3_table.specs.Tokens.{Token, Word, Quoted, Unclosed, tokens}
use Rattle.lc3_table.specs.Words.{register}
use Rattle.lc3_table.specs.Statements.{Line, Blank, LabelAlone, Operates, Operand, Register, Label, Characters, unless, or_fault, token_fault, parts, order_fault, with_operands, all_operands, operands, operand, operand_by_register, operand_by_number, characters, takes_register, takes_label, forms, line, ◌>>=◌}
use Rattle.lc3_table.specs.Meaning.{field_of}
use Rattle.lc3_table.specs.declared.fields.Field.{Field}
use Rattle.lc3_table.specs.declared.fields.Field.TheVariants as field
use Rattle.lc3_table.specs.declared.operation.Form.{Form}
use Rattle.lc3_table.specs.declared.operation.Form.TheVariants as form
use Rattle.lc3_table.specs.declared.operation.Fault.TheVariants as fault
use Rattle.lc3_asm.proofs.Outcomes.{then-ok, unless-ok, if-ok, ok-same}
use Rattle.std.proofs.lemmas.Grind.{common_steps}

-- the statement that a line was read from
record Came (started : Bool) (l : Line Operand) : Type 0 where
  statement : Line Token
  ordered : order_fault started statement ≡ None
  operands_are : with_operands statement ≡ Ok l

line_came : (started : Bool) (bytes : List ℕ) (l : Line Operand) → line started bytes ≡ Ok l → Came started l
line_came started bytes l e =
    let a = unless-ok (token_fault (tokens bytes)) (parts (tokens bytes) >>= λ p. unless (order_fault started p) (with_operands p)) l e in
    let b = then-ok (parts (tokens bytes)) (λ p. unless (order_fault started p) (with_operands p)) l a.1 in
    let c = unless-ok (order_fault started b.0) (with_operands b.0) l b.2 in
    record { statement = b.0; ordered = c.0; operands_are = c.1 }

same_order : (started : Bool) (p : Line Token) (l : Line Operand) → order_fault started p ≡ None → with_operands p ≡ Ok l → order_fault started l ≡ None
same_order started x l h e = grind (arith, common_steps, ok-same, then-ok)

-- a line without fault stands where it may
pub line_ordered : (started : Bool) (bytes : List ℕ) (l : Line Operand) → line started bytes ≡ Ok l → order_fault started l ≡ None
line_ordered started bytes l e =
    let came = line_came started bytes l e in
    same_order started came.statement l came.ordered came.operands_are

-- a field that an operand of a form can be
abbrev pub field_fits : Form → Field → Bool
field_fits form.Characters field.Nothing = true
field_fits form.Characters y = false
field_fits form.Register (field.Register r) = true
field_fits form.Register y = false
field_fits form.RegisterOrImmediate (field.Register r) = true
field_fits f (field.Number z) = true
field_fits f y = false

-- an operand that may stand in a form
abbrev pub fits : Form → Operand → Bool
fits f (Label n) = takes_label f
fits f (Register r) = takes_register f && nat_lt r 8
fits f x = field_fits f (field_of x)

abbrev pub all_fit : List Form → List Operand → Bool
all_fit [] [] = true
all_fit (f ∷ fs) (x ∷ xs) = fits f x && all_fit fs xs
all_fit _ _ = false

abbrev pub line_fits : Line Operand → Bool
line_fits (Operates n o xs) = all_fit (forms o) xs
line_fits _ = true

register-below : (w : List ℕ) (r : ℕ) → register w ≡ Some r → nat_lt r 8 ≡ true
unfolding register
register-below [] r e = cc
register-below (a ∷ []) r e = cc
register-below (a ∷ d ∷ []) r e =
    let taken = cond_some (to_ascii_uppercase a == 82 && nat_le 48 d && nat_le d 55) (d - 48) r e in
    let last = (and_parts (to_ascii_uppercase a == 82 && nat_le 48 d) (nat_le d 55) taken.0).1 in
    lt-ltb r 8 (omega (arith, leb-true d 55 last, taken.1))
register-below (a ∷ d ∷ c ∷ cs) r e = cc

number-fits : (f : Form) (w : List ℕ) (o : Option ℤ) (x : Operand) → operand_by_number f w o ≡ Ok x → fits f x ≡ true
number-fits f w y x e = search rules

word-fits : (f : Form) (w : List ℕ) (o : Option ℕ) (x : Operand) → register w ≡ o → operand_by_register f w o ≡ Ok x → fits f x ≡ true
word-fits f w y x is e = search (rules, register-below, number-fits)

string-fits : (o : Option (List ℕ)) (x : Operand) → (or_fault o fault.BadString >>= λ cs. Ok (Characters cs)) ≡ Ok x → fits form.Characters x ≡ true
string-fits y x h = search rules

operand-fits : (f : Form) (t : Token) (x : Operand) → operand f t ≡ Ok x → fits f x ≡ true
operand-fits form.Characters (Quoted s) x h = string-fits (characters s) x h
operand-fits form.Characters (Word w) x h = cc
operand-fits form.Characters Unclosed x h = cc
operand-fits f (Word w) x h = word-fits f w (register w) x refl h
operand-fits f (Quoted s) x h = cc
operand-fits f Unclosed x h = cc

operands-fit : (fs : List Form) (ts : List Token) (xs : List Operand) → length fs ≡ length ts → operands fs ts ≡ Ok xs → all_fit fs xs ≡ true
operands-fit [] [] xs n h = let same : [] ≡ xs = ok-same [] xs h in rw (← same) refl
operands-fit [] (t ∷ ts) xs n h = absurd (omega (arith, n))
operands-fit (f ∷ fs) [] xs n h = absurd (omega (arith, n))
operands-fit (f ∷ fs) (t ∷ ts) xs n h =
    let first = then-ok (operand f t) (λ x. operands fs ts >>= λ ys. Ok (x ∷ ys)) xs h in
    let rest = then-ok (operands fs ts) (λ ys. Ok (first.0 ∷ ys)) xs first.2 in
    let same : first.0 ∷ rest.0 ≡ xs = ok-same (first.0 ∷ rest.0) xs rest.2 in
    let all : all_fit fs rest.0 ≡ true = operands-fit fs ts rest.0 (omega (arith, n)) rest.1 in
    rw (← same, operand-fits f t first.0 first.1, all) refl

all_operands-fit : (fs : List Form) (ts : List Token) (xs : List Operand) → all_operands fs ts ≡ Ok xs → all_fit fs xs ≡ true
all_operands-fit fs ts xs e = search (rules, if-ok, operands-fit, nat_tests)

statement-fits : (p : Line Token) (l : Line Operand) → with_operands p ≡ Ok l → line_fits l ≡ true
statement-fits Blank l e = let same : Blank ≡ l = ok-same Blank l e in rw (← same) refl
statement-fits (LabelAlone n) l e = let same : LabelAlone n ≡ l = ok-same (LabelAlone n) l e in rw (← same) refl
statement-fits (Operates a o ts) l e =
    let read = then-ok (all_operands (forms o) ts) (λ xs. Ok (Operates a o xs)) l e in
    let same : Operates a o read.0 ≡ l = ok-same (Operates a o read.0) l read.2 in
    rw (← same) (all_operands-fit (forms o) ts read.0 read.1)

-- the operands of a line fit their forms
pub line_fitting : (started : Bool) (bytes : List ℕ) (l : Line Operand) → line started bytes ≡ Ok l → line_fits l ≡ true
line_fitting started bytes l e =
    let came = line_came started bytes l e in
    statement-fits came.statement l came.operands_are
