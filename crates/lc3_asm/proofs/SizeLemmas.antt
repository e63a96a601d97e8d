-- A line that was read has as many words as its size says.
use Rattle.std.proofs.Common.{◌≡◌, ℕ, Bool, true, false, List, [], ◌∷◌, length, refl, arith, Option, rules}
use Rattle.std.specs.Prelude.{Ok, is_some, ◌&&◌, nat_abs}
use Rattle.std.proofs.lemmas.List.{length-append, length-replicate}
use Rattle.lc3_table.specs.Statements.{Line, Operand, Number, Characters, forms, ◌>>=◌}
use Rattle.lc3_table.specs.Meaning.{words, size, operation_size, words_of_fields, instruction, instruction_words, resolved_field, resolved_fields}
use Rattle.lc3_table.specs.declared.fields.Field.{Field}
use Rattle.lc3_table.specs.declared.fields.Field.TheVariants as field
use Rattle.lc3_table.specs.declared.instr.Instr.{Instr}
use Rattle.lc3_table.specs.declared.operation.Operation.{Operation}
use Rattle.lc3_table.specs.declared.operation.Operation.TheVariants as op
use Rattle.lc3_table.specs.declared.operation.Form.{Form}
use Rattle.lc3_asm.proofs.Outcomes.{then-ok, ok-same}
use Rattle.lc3_asm.proofs.LineLemmas.{field_fits, fits, all_fit, line_fits}
use Rattle.std.proofs.lemmas.Bool.{and_parts}

abbrev pub fields_fit : List Form → List Field → Bool
fields_fit [] [] = true
fields_fit (f ∷ fs) (y ∷ ys) = field_fits f y && fields_fit fs ys
fields_fit _ _ = false

resolved_field-fits : (values : List ℕ → Option ℕ) (address : ℕ) (f : Form) (x : Operand) (y : Field) → fits f x ≡ true → resolved_field values address f x ≡ Ok y → field_fits f y ≡ true
resolved_field-fits values address f x y h e = search rules

resolved_fields-fit : (values : List ℕ → Option ℕ) (address : ℕ) (fs : List Form) (xs : List Operand) (ys : List Field) → all_fit fs xs ≡ true → resolved_fields values address fs xs ≡ Ok ys → fields_fit fs ys ≡ true
resolved_fields-fit values address [] [] ys h e = let same : [] ≡ ys = ok-same [] ys e in rw (← same) refl
resolved_fields-fit values address [] (x ∷ xs) ys h e = cc
resolved_fields-fit values address (f ∷ fs) [] ys h e = cc
resolved_fields-fit values address (f ∷ fs) (x ∷ xs) ys h e =
    let first = then-ok (resolved_field values address f x) (λ y. resolved_fields values address fs xs >>= λ zs. Ok (y ∷ zs)) ys e in
    let rest = then-ok (resolved_fields values address fs xs) (λ zs. Ok (first.0 ∷ zs)) ys first.2 in
    let same : first.0 ∷ rest.0 ≡ ys = ok-same (first.0 ∷ rest.0) ys rest.2 in
    let fit = and_parts (fits f x) (all_fit fs xs) h in
    let one : field_fits f first.0 ≡ true = resolved_field-fits values address f x first.0 fit.0 first.1 in
    let all : fields_fit fs rest.0 ≡ true = resolved_fields-fit values address fs xs rest.0 fit.1 rest.1 in
    rw (← same, one, all) refl

-- the operations that are one instruction
abbrev is_instruction : Operation → Bool
is_instruction op.Origin = false
is_instruction op.Fill = false
is_instruction op.Block = false
is_instruction op.Text = false
is_instruction op.End = false
is_instruction _ = true

instruction-found : (o : Operation) (ys : List Field) → is_instruction o ≡ true → fields_fit (forms o) ys ≡ true → is_some (instruction o ys) ≡ true
unfolding instruction
instruction-found op.Add (field.Register d ∷ field.Register s ∷ field.Register t ∷ []) i h = refl
instruction-found op.Add (field.Register d ∷ field.Register s ∷ field.Number z ∷ []) i h = refl
instruction-found op.And (field.Register d ∷ field.Register s ∷ field.Register t ∷ []) i h = refl
instruction-found op.And (field.Register d ∷ field.Register s ∷ field.Number z ∷ []) i h = refl
instruction-found op.Not (field.Register d ∷ field.Register s ∷ []) i h = refl
instruction-found (op.Branch n z p) (field.Number o ∷ []) i h = refl
instruction-found op.Jump (field.Register b ∷ []) i h = refl
instruction-found op.JumpSubroutine (field.Number o ∷ []) i h = refl
instruction-found op.JumpSubroutineRegister (field.Register b ∷ []) i h = refl
instruction-found op.Load (field.Register d ∷ field.Number o ∷ []) i h = refl
instruction-found op.LoadIndirect (field.Register d ∷ field.Number o ∷ []) i h = refl
instruction-found op.LoadBaseOffset (field.Register d ∷ field.Register b ∷ field.Number o ∷ []) i h = refl
instruction-found op.LoadAddress (field.Register d ∷ field.Number o ∷ []) i h = refl
instruction-found op.Return [] i h = refl
instruction-found op.ReturnInterrupt [] i h = refl
instruction-found op.Store (field.Register s ∷ field.Number o ∷ []) i h = refl
instruction-found op.StoreIndirect (field.Register s ∷ field.Number o ∷ []) i h = refl
instruction-found op.StoreBaseOffset (field.Register s ∷ field.Register b ∷ field.Number o ∷ []) i h = refl
instruction-found op.Trap (field.Number z ∷ []) i h = refl
instruction-found op.Getc [] i h = refl
instruction-found op.Out [] i h = refl
instruction-found op.Puts [] i h = refl
instruction-found op.In [] i h = refl
instruction-found op.Putsp [] i h = refl
instruction-found op.Halt [] i h = refl
instruction-found op.NoOperation [] i h = refl
instruction-found o ys i h = cc

one_word : (i : Option Instr) → is_some i ≡ true → length (instruction_words i) ≡ 1
one_word x h = search rules

encoded-exact : (o : Operation) (xs : List Operand) (ys : List Field) → all_fit (forms o) xs ≡ true → fields_fit (forms o) ys ≡ true → length (words_of_fields o xs ys) ≡ operation_size o xs
unfolding instruction
encoded-exact op.Origin xs ys h k = refl
encoded-exact op.End xs ys h k = refl
encoded-exact op.Text (Characters cs ∷ []) ys h k = omega (arith, length-append cs (0 ∷ []))
encoded-exact op.Block (Number z ∷ []) ys h k = length-replicate {A = ℕ} (nat_abs z) 0
encoded-exact op.Fill xs (field.Number z ∷ []) h k = refl
encoded-exact op.Text xs ys h k = cc
encoded-exact op.Block xs ys h k = cc
encoded-exact op.Fill xs ys h k = cc
encoded-exact o xs ys h k = one_word (instruction o ys) (instruction-found o ys refl k)

pub words-exact : (values : List ℕ → Option ℕ) (address : ℕ) (l : Line Operand) (ws : List ℕ) → line_fits l ≡ true → words values address l ≡ Ok ws → length ws ≡ size l
words-exact values address x ws h e = search (rules, encoded-exact, resolved_fields-fit)
