-- An instruction reaches the place of the label that it names.
use Rattle.std.proofs.Common.{◌≡◌, ℕ, ◌+◌, ◌-◌, ◌^◌, ◌<◌, ◌≤◌, Bool, true, List, [], ◌∷◌, ◌++◌, map, refl, ap, ◌∙◌, arith, Some, None, Option, rules}
use Rattle.std.specs.Prelude.{Ok, pos, neg_ℤ, ◌+ℤ◌, ◌&&◌, nat_lt, option_and_then}
use lib.IntN.{ℤ}
use Rattle.std.specs.List.{list_any}
use Rattle.std.proofs.lemmas.Int.{ints}
use Rattle.std.proofs.lemmas.Bool.{and_parts, ltb-true}
use Rattle.lc3_word.specs.Words.{IsSigned, low_bits}
use Rattle.lc3_word.specs.Segment.{first_device}
use Rattle.lc3_table.specs.declared.instr.Instr.{Instr}
use Rattle.lc3_table.specs.declared.instr.Instr.TheVariants.{Br, Jsr, Ld, Ldi, Lea, St, Sti}
use Rattle.lc3_table.specs.declared.operation.Operation.{Operation}
use Rattle.lc3_table.specs.declared.operation.Operation.TheVariants as op
use Rattle.lc3_table.specs.declared.operation.Form.{Form}
use Rattle.lc3_table.specs.declared.operation.Form.TheVariants as form
use Rattle.lc3_table.specs.declared.fields.Field.{Field}
use Rattle.lc3_table.specs.declared.fields.Field.TheVariants as field
use Rattle.lc3_table.specs.Instructions.{word_of, IsInstruction}
use Rattle.lc3_table.specs.Decoding.{instruction_at}
use Rattle.lc3_table.specs.Statements.{Operates, Operand, Register, Label, forms, operation_order, is_between, ◌>>=◌}
use Rattle.lc3_table.specs.Meaning.{offset, label_number, resolved_field, resolved_fields, words_of_fields, instruction}
use Rattle.lc3_table.proofs.Reading.{instruction_at-word_of}
use Rattle.lc3_asm.specs.Texts.{value, labels, origin, words_of, address_after, is_origin}
use Rattle.lc3_asm.specs.Laws.{InstructionsReachLabels, FillsHoldAddresses, word_at, pc_offset, target_named, field_with_offset}
use Rattle.lc3_asm.proofs.Outcomes.{then-ok, or_fault-ok, ok-same}
use Rattle.lc3_asm.proofs.LineLemmas.{all_fit, line_fitting, line_ordered}
use Rattle.lc3_asm.proofs.ReadLemmas.{meant, lines-read, read-at}
use Rattle.lc3_asm.proofs.LabelLemmas.{labels-below}
use Rattle.lc3_asm.proofs.MoreLines.{origin-front}
use Rattle.lc3_asm.proofs.PlaceLemmas.{found, word-at}

-- a label that an offset of this many bits reaches
record Near (values : List ℕ → Option ℕ) (address bits : ℕ) (name : List ℕ) (y : Field) : Type 0 where
  offset : ℤ
  target : ℕ
  target_is : values name ≡ Some target
  field_is : y ≡ field.Number offset
  signed : IsSigned bits offset
  reaches : pos (address + 1) +ℤ offset ≡ pos target

signed : (bits : ℕ) (z : ℤ) → is_between (neg_ℤ (pos (2 ^ (bits - 1)))) (pos (2 ^ (bits - 1) - 1)) z ≡ true → IsSigned bits z
signed bits z h = search rules

near : (values : List ℕ → Option ℕ) (address bits : ℕ) (f : Form) (name : List ℕ) (y : Field)
    → ((t : ℕ) → label_number f address t ≡ offset bits address t) → resolved_field values address f (Label name) ≡ Ok y → Near values address bits name y
near values address bits f name y is e = search (rules, or_fault-ok, signed, ints)

-- the fields of a label alone, and of a register and a label
one-field : (values : List ℕ → Option ℕ) (address : ℕ) (f : Form) (name : List ℕ) (ys : List Field) → resolved_fields values address (f ∷ []) (Label name ∷ []) ≡ Ok ys
    → (y : Field) × (resolved_field values address f (Label name) ≡ Ok y) × (ys ≡ y ∷ [])
one-field values address f name ys e = search rules

two-fields : (values : List ℕ → Option ℕ) (address r : ℕ) (f : Form) (name : List ℕ) (ys : List Field) → resolved_fields values address (form.Register ∷ f ∷ []) (Register r ∷ Label name ∷ []) ≡ Ok ys
    → (y : Field) × (resolved_field values address f (Label name) ≡ Ok y) × (ys ≡ field.Register r ∷ y ∷ [])
two-fields values address r f name ys e = search rules

-- the instruction that a line with a label is
record Written (values : List ℕ → Option ℕ) (address : ℕ) (o : Operation) (xs : List Operand) (ws : List ℕ) : Type 0 where
  written : Instr
  offset : ℤ
  target : ℕ
  written_is : instruction o (map (field_with_offset offset) xs) ≡ Some written
  offset_is : pc_offset written ≡ Some offset
  target_is : option_and_then values (target_named o xs) ≡ Some target
  is_instruction : IsInstruction written
  word_is : ws ≡ word_of written ∷ []
  reaches : pos (address + 1) +ℤ offset ≡ pos target

-- the instruction of a label that is near, and of what stands before it
with_offset : (values : List ℕ → Option ℕ) (address bits : ℕ) (o : Operation) (xs : List Operand) (make : ℤ → Instr) (m : List ℕ) (y : Field) (ys : List Field) (ws : List ℕ)
    → Near values address bits m y → target_named o xs ≡ Some m → ((z : ℤ) → y ≡ field.Number z → ys ≡ map (field_with_offset z) xs)
    → ((z : ℤ) → instruction o (map (field_with_offset z) xs) ≡ Some (make z)) → ((z : ℤ) → pc_offset (make z) ≡ Some z)
    → ((z : ℤ) → words_of_fields o xs (map (field_with_offset z) xs) ≡ word_of (make z) ∷ []) → ((z : ℤ) → IsSigned bits z → IsInstruction (make z))
    → words_of_fields o xs ys ≡ ws → Written values address o xs ws
with_offset values address bits o xs make m y ys ws near named fields written offset word fits e = search rules

-- the instruction of a label alone
alone : (values : List ℕ → Option ℕ) (address bits : ℕ) (f : Form) (o : Operation) (make : ℤ → Instr) (m ws : List ℕ) → ((t : ℕ) → label_number f address t ≡ offset bits address t)
    → target_named o (Label m ∷ []) ≡ Some m → ((z : ℤ) → instruction o (field.Number z ∷ []) ≡ Some (make z)) → ((z : ℤ) → pc_offset (make z) ≡ Some z)
    → ((z : ℤ) → words_of_fields o (Label m ∷ []) (field.Number z ∷ []) ≡ word_of (make z) ∷ []) → ((z : ℤ) → IsSigned bits z → IsInstruction (make z))
    → (resolved_fields values address (f ∷ []) (Label m ∷ []) >>= λ ys. Ok (words_of_fields o (Label m ∷ []) ys)) ≡ Ok ws → Written values address o (Label m ∷ []) ws
alone values address bits f o make m ws is named written offset word fits e =
    let ys = then-ok (resolved_fields values address (f ∷ []) (Label m ∷ [])) (λ ys. Ok (words_of_fields o (Label m ∷ []) ys)) ws e in
    let y = one-field values address f m ys.0 ys.1 in
    with_offset values address bits o (Label m ∷ []) make m y.0 ys.0 ws (near values address bits f m y.0 is y.1) named (λ z k. y.2 ∙ ap (λ x. x ∷ []) k) written offset word fits (ok-same _ ws ys.2)

-- the instruction of a register and a label
registered : (values : List ℕ → Option ℕ) (address : ℕ) (o : Operation) (make : ℤ → Instr) (r : ℕ) (m ws : List ℕ) → all_fit (form.Register ∷ form.Target ∷ []) (Register r ∷ Label m ∷ []) ≡ true
    → target_named o (Register r ∷ Label m ∷ []) ≡ Some m → ((z : ℤ) → instruction o (field.Register r ∷ field.Number z ∷ []) ≡ Some (make z)) → ((z : ℤ) → pc_offset (make z) ≡ Some z)
    → ((z : ℤ) → words_of_fields o (Register r ∷ Label m ∷ []) (field.Register r ∷ field.Number z ∷ []) ≡ word_of (make z) ∷ []) → ((z : ℤ) → r < 8 → IsSigned 9 z → IsInstruction (make z))
    → (resolved_fields values address (form.Register ∷ form.Target ∷ []) (Register r ∷ Label m ∷ []) >>= λ ys. Ok (words_of_fields o (Register r ∷ Label m ∷ []) ys)) ≡ Ok ws
    → Written values address o (Register r ∷ Label m ∷ []) ws
registered values address o make r m ws h named written offset word fits e =
    let ys = then-ok (resolved_fields values address (form.Register ∷ form.Target ∷ []) (Register r ∷ Label m ∷ [])) (λ ys. Ok (words_of_fields o (Register r ∷ Label m ∷ []) ys)) ws e in
    let y = two-fields values address r form.Target m ys.0 ys.1 in
    with_offset values address 9 o (Register r ∷ Label m ∷ []) make m y.0 ys.0 ws (near values address 9 form.Target m y.0 (λ t. refl) y.1) named (λ z k. y.2 ∙ ap (λ x. field.Register r ∷ x ∷ []) k)
    written offset word (λ z. fits z (ltb-true r 8 (and_parts (nat_lt r 8) (true && true) h).0)) (ok-same _ ws ys.2)

written : (values : List ℕ → Option ℕ) (address : ℕ) (o : Operation) (xs : List Operand) (name ws : List ℕ) → all_fit (forms o) xs ≡ true → target_named o xs ≡ Some name
    → (resolved_fields values address (forms o) xs >>= λ ys. Ok (words_of_fields o xs ys)) ≡ Ok ws → Written values address o xs ws
unfolding instruction
written values address (op.Branch n z p) (Label m ∷ []) name ws h t e =
    alone values address 9 form.Target (op.Branch n z p) (Br n z p) m ws (λ t. refl) refl (λ z. refl) (λ z. refl) (λ z. refl) (λ z signed. signed) e
written values address op.JumpSubroutine (Label m ∷ []) name ws h t e =
    alone values address 11 form.FarTarget op.JumpSubroutine Jsr m ws (λ t. refl) refl (λ z. refl) (λ z. refl) (λ z. refl) (λ z signed. signed) e
written values address op.Load (Register r ∷ Label m ∷ []) name ws h t e =
    registered values address op.Load (Ld r) r m ws h refl (λ z. refl) (λ z. refl) (λ z. refl) (λ z below signed. (below, signed)) e
written values address op.LoadIndirect (Register r ∷ Label m ∷ []) name ws h t e =
    registered values address op.LoadIndirect (Ldi r) r m ws h refl (λ z. refl) (λ z. refl) (λ z. refl) (λ z below signed. (below, signed)) e
written values address op.LoadAddress (Register r ∷ Label m ∷ []) name ws h t e =
    registered values address op.LoadAddress (Lea r) r m ws h refl (λ z. refl) (λ z. refl) (λ z. refl) (λ z below signed. (below, signed)) e
written values address op.Store (Register r ∷ Label m ∷ []) name ws h t e =
    registered values address op.Store (St r) r m ws h refl (λ z. refl) (λ z. refl) (λ z. refl) (λ z below signed. (below, signed)) e
written values address op.StoreIndirect (Register r ∷ Label m ∷ []) name ws h t e =
    registered values address op.StoreIndirect (Sti r) r m ws h refl (λ z. refl) (λ z. refl) (λ z. refl) (λ z below signed. (below, signed)) e
written values address o xs name ws h t e = cc

-- such a line stands behind the `.ORIG`
started-before : (s : Bool) (o : Operation) (xs : List Operand) (name : List ℕ) → target_named o xs ≡ Some name → operation_order s o ≡ None → s ≡ true
started-before x o xs name t e = search rules

pub reaches_label : InstructionsReachLabels
reaches_label text p before label o xs name accepted has named =
    let ls = before ++ Operates label o xs ∷ has.0 in
    let means = meant text p ls accepted has.1 in
    let reads = lines-read text ls has.1 in
    let read = read-at [] before (Operates label o xs) has.0 reads in
    let place = found (labels ls) [] before (Operates label o xs) has.0 means.made reads means.words_are in
    let line = written (value (labels ls)) (address_after before) o xs name place.here (line_fitting (list_any is_origin before) read.bytes (Operates label o xs) read.read) named place.here_is in
    let started = started-before (list_any is_origin before) o xs name named (line_ordered (list_any is_origin before) read.bytes (Operates label o xs) read.read) in
    let first : origin ls ≡ origin before = origin-front before (Operates label o xs ∷ has.0) started in
    let at : word_at (record { origin = origin ls; words = words_of means.made }) (address_after before) ≡ Some (word_of line.written) =
    word-at (origin ls) (address_after before) (words_of means.made) place.earlier place.later (word_of line.written) (place.cut ∙ ap (λ u. place.earlier ++ (u ++ place.later)) line.word_is)
    (omega (arith, first, place.count)) in
    rw (← means.laid) (record {
      written = line.written;
      offset = line.offset;
      target = line.target;
      written_is = line.written_is;
      offset_is = line.offset_is;
      target_is = rw named at line.target_is;
      stands = ap (option_and_then instruction_at) at ∙ instruction_at-word_of line.written (word_of line.written) line.is_instruction refl;
      reaches = line.reaches;
    })

-- the word of a `.FILL` of a label
filled : (values : List ℕ → Option ℕ) (address : ℕ) (name ws : List ℕ) → (resolved_fields values address (form.Value ∷ []) (Label name ∷ []) >>= λ ys. Ok (words_of_fields op.Fill (Label name ∷ []) ys)) ≡ Ok ws
    → (target : ℕ) × (values name ≡ Some target) × (ws ≡ low_bits 16 (pos target) ∷ [])
filled values address name ws e = search rules

fill-started : (s : Bool) → operation_order s op.Fill ≡ None → s ≡ true
fill-started x e = search rules

pub fill_holds_address : FillsHoldAddresses
fill_holds_address text p before label name accepted has =
    let l = Operates label op.Fill (Label name ∷ []) in
    let ls = before ++ l ∷ has.0 in
    let means = meant text p ls accepted has.1 in
    let reads = lines-read text ls has.1 in
    let read = read-at [] before l has.0 reads in
    let place = found (labels ls) [] before l has.0 means.made reads means.words_are in
    let word = filled (value (labels ls)) (address_after before) name place.here place.here_is in
    let started = fill-started (list_any is_origin before) (line_ordered (list_any is_origin before) read.bytes l read.read) in
    let first : origin ls ≡ origin before = origin-front before (l ∷ has.0) started in
    let small : word.0 ≤ first_device = labels-below ls name word.0 reads (omega arith) word.1 in
    let whole : low_bits 16 (pos word.0) ≡ word.0 = omega (arith, small) in
    let at : word_at (record { origin = origin ls; words = words_of means.made }) (address_after before) ≡ Some word.0 =
    word-at (origin ls) (address_after before) (words_of means.made) place.earlier place.later word.0 (place.cut ∙ ap (λ u. place.earlier ++ (u ++ place.later)) (word.2 ∙ ap (λ w. w ∷ []) whole))
    (omega (arith, first, place.count)) in
    rw (← means.laid) (word.0, word.1, at)
