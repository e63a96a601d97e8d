-- What is true of every accepted text, in the words of the book: where labels stand, what instructions
-- reach, and how the rows and the listing cover the image.
use Rattle.std.specs.Prelude.{ℕ, ℤ, ◌≡◌, ◌↔◌, ◌+◌, ◌-◌, ◌<◌, ◌+ℤ◌, pos, nat_lt, slice_get, Option, Some, None, option_and_then, Ok, Err, IsOk, true, false, List, [], ◌∷◌, ◌++◌, map, length, replicate, All, if◌then◌else◌}
use Rattle.std.specs.List.{list_any, AllZip}
use Rattle.lc3_word.specs.Segment.{Segment}
use Rattle.lc3_table.specs.declared.instr.Instr.{Instr}
use Rattle.lc3_table.specs.declared.instr.Instr.TheVariants.{Br, Jsr, Ld, Ldi, Lea, St, Sti}
use Rattle.lc3_table.specs.declared.operation.Operation.{Operation}
use Rattle.lc3_table.specs.declared.operation.Operation.TheVariants as op
use Rattle.lc3_table.specs.declared.fields.Field.{Field}
use Rattle.lc3_table.specs.declared.fields.Field.TheVariants as field
use Rattle.lc3_table.specs.Decoding.{instruction_at}
use Rattle.lc3_table.specs.Statements.{Line, Operates, Operand, Register, Label}
use Rattle.lc3_table.specs.declared.operation.Fault.{Fault}
use Rattle.lc3_table.specs.declared.operation.Fault.TheVariants as fault
use Rattle.lc3_table.specs.Meaning.{field_of, instruction, words}
use Rattle.lc3_asm.specs.Texts.{Program, program, lines, lines_read, line_after, label_of, labels, with_earlier, address_after, value, is_origin, is_end}
use Rattle.lc3_asm.specs.Listings.{word_line, rows_text}
use Rattle.lc3_asm.specs.declared.assembled.Row.{Row}

-- a line of a text, after these lines
abbrev pub HasLine : List ℕ → List (Line Operand) → Line Operand → Type 0
HasLine text before l = (after : List (Line Operand)) × (lines_read text ≡ Ok (before ++ l ∷ after))

-- A label has the address of the line that defines it.
abbrev pub LabelsAreLineAddresses : Type 0
LabelsAreLineAddresses = (text : List ℕ) (p : Program) (before : List (Line Operand)) (l : Line Operand) (name : List ℕ)
    → program text ≡ Ok p → HasLine text before l → label_of l ≡ Some name → value p.symbols name ≡ Some (address_after before)

-- the word at an address of an image
abbrev pub word_at : Segment → ℕ → Option ℕ
word_at image address = if nat_lt address image.origin then None else slice_get image.words (address - image.origin)

-- the instruction at an address of an image
abbrev pub instruction_in : Segment → ℕ → Option Instr
instruction_in image address = option_and_then instruction_at (word_at image address)

-- the PCoffset9 or PCoffset11 of an instruction (appendix A)
abbrev pub pc_offset : Instr → Option ℤ
pc_offset (Br n z p offset) = Some offset
pc_offset (Jsr offset) = Some offset
pc_offset (Ld dr offset) = Some offset
pc_offset (Ldi dr offset) = Some offset
pc_offset (Lea dr offset) = Some offset
pc_offset (St sr offset) = Some offset
pc_offset (Sti sr offset) = Some offset
pc_offset _ = None

-- the label that an instruction names as its target
abbrev pub target_named : Operation → List Operand → Option (List ℕ)
target_named (op.Branch n z p) (Label name ∷ []) = Some name
target_named op.JumpSubroutine (Label name ∷ []) = Some name
target_named op.Load (Register dr ∷ Label name ∷ []) = Some name
target_named op.LoadIndirect (Register dr ∷ Label name ∷ []) = Some name
target_named op.LoadAddress (Register dr ∷ Label name ∷ []) = Some name
target_named op.Store (Register sr ∷ Label name ∷ []) = Some name
target_named op.StoreIndirect (Register sr ∷ Label name ∷ []) = Some name
target_named _ _ = None

-- an operand as a field, with a number in the place of a label
abbrev pub field_with_offset : ℤ → Operand → Field
field_with_offset offset (Label name) = field.Number offset
field_with_offset offset x = field_of x

-- at this address of the image stands the instruction of this operation and these operands, with an offset
-- for the label, and this offset, added to the address plus 1, is the label's value
pub record Reaches (p : Program) (address : ℕ) (o : Operation) (xs : List Operand) (name : List ℕ) : Type 0 where
  pub written : Instr
  pub offset : ℤ
  pub target : ℕ
  pub written_is : instruction o (map (field_with_offset offset) xs) ≡ Some written
  pub offset_is : pc_offset written ≡ Some offset
  pub target_is : value p.symbols name ≡ Some target
  pub stands : instruction_in p.image address ≡ Some written
  pub reaches : pos (address + 1) +ℤ offset ≡ pos target

-- The instruction at a line reaches the place of the label that the line names.
abbrev pub InstructionsReachLabels : Type 0
InstructionsReachLabels = (text : List ℕ) (p : Program) (before : List (Line Operand)) (label : Option (List ℕ)) (o : Operation) (xs : List Operand) (name : List ℕ)
    → program text ≡ Ok p → HasLine text before (Operates label o xs) → target_named o xs ≡ Some name
    → Reaches p (address_after before) o xs name

-- The word of `.FILL` and a label is the label's address.
abbrev pub FillsHoldAddresses : Type 0
FillsHoldAddresses = (text : List ℕ) (p : Program) (before : List (Line Operand)) (label : Option (List ℕ)) (name : List ℕ)
    → program text ≡ Ok p → HasLine text before (Operates label op.Fill (Label name ∷ []))
    → (target : ℕ) × (value p.symbols name ≡ Some target) × (word_at p.image (address_after before) ≡ Some target)

-- rows that have words and follow one another, from an address up to an end
abbrev pub Follow : ℕ → List Row → ℕ → Type 0
Follow address [] end = address ≡ end
Follow address (r ∷ rs) end = (r.address ≡ address) × (0 < r.count) × Follow (address + r.count) rs end

-- The rows cover the image: each begins where the one before it ends, and the last ends with the image.
abbrev pub RowsCoverImage : Type 0
RowsCoverImage = (text : List ℕ) (p : Program) → program text ≡ Ok p → Follow p.image.origin p.rows (p.image.origin + length p.image.words)

-- the number of the source line of each word
abbrev pub line_numbers : List Row → List ℕ
line_numbers [] = []
line_numbers (r ∷ rs) = replicate r.count r.line ++ line_numbers rs

-- a line of a listing for each of these words, from an address on, with the number of its source line
abbrev pub words_listed : ℕ → List ℕ → List ℕ → List ℕ
words_listed address (w ∷ ws) (n ∷ ns) = word_line address w n ++ words_listed (address + 1) ws ns
words_listed address _ _ = []

-- The listing shows each word of the image at its address.
abbrev pub ListingShowsImage : Type 0
ListingShowsImage = (text : List ℕ) (p : Program) → program text ≡ Ok p
    → rows_text p.rows p.image.words ≡ words_listed p.image.origin p.image.words (line_numbers p.rows)

-- a text is read as a line behind those before it, and it isn't `.END`
abbrev pub IsReadAs : List ℕ → List (Line Operand) × Line Operand → Type 0
IsReadAs bytes e = (line_after e.0 bytes ≡ Ok e.1) × (is_end e.1 ≡ false)

-- these texts are read as these lines, each behind the lines before it, and none of them is `.END`
abbrev pub AreReadAs : List (List ℕ) → List (Line Operand) → Type 0
AreReadAs texts ls = AllZip IsReadAs texts (with_earlier ls)

-- a line has words, behind those before it
abbrev pub HasWordsAt : List (List ℕ × ℕ) → List (Line Operand) × Line Operand → Type 0
HasWordsAt known e = IsOk (words (value known) (address_after e.0) e.1)

-- each of these lines has words, behind the lines before it
abbrev pub HaveWords : List (List ℕ × ℕ) → List (Line Operand) → Type 0
HaveWords known ls = All (HasWordsAt known) (with_earlier ls)

-- line n is the first that can't be read, and this is the first that is wrong with it
pub record IsFirstUnread (text : List ℕ) (n : ℕ) (kind : Fault) : Type 0 where
  pub front : List (List ℕ)
  pub bytes : List ℕ
  pub rest : List (List ℕ)
  pub before : List (Line Operand)
  pub lines_are : lines text ≡ front ++ bytes ∷ rest
  pub number : n ≡ length front + 1
  pub earlier : AreReadAs front before
  pub here : line_after before bytes ≡ Err kind

-- each line up to `.END` can be read, none is a `.ORIG`, and n is the last line of the text
pub record LacksOrigin (text : List ℕ) (n : ℕ) (kind : Fault) : Type 0 where
  pub read : List (Line Operand)
  pub lines_are : lines_read text ≡ Ok read
  pub unstarted : list_any is_origin read ≡ false
  pub number : n ≡ length (lines text)
  pub here : kind ≡ fault.NoOrig

-- each line up to `.END` can be read, and line n is the first that has no words, for this fault
pub record IsFirstWithoutWords (text : List ℕ) (n : ℕ) (kind : Fault) : Type 0 where
  pub read : List (Line Operand)
  pub before : List (Line Operand)
  pub line : Line Operand
  pub after : List (Line Operand)
  pub lines_are : lines_read text ≡ Ok read
  pub started : list_any is_origin read ≡ true
  pub split : read ≡ before ++ line ∷ after
  pub number : n ≡ length before + 1
  pub earlier : HaveWords (labels read) before
  pub here : words (value (labels read)) (address_after before) line ≡ Err kind

-- what a text is refused for: where its lines are read, for want of a `.ORIG`, or where its words are made
pub data HasFirstFault (text : List ℕ) (n : ℕ) (kind : Fault) : Type 0 where
  Unread : IsFirstUnread text n kind → HasFirstFault text n kind
  Unstarted : LacksOrigin text n kind → HasFirstFault text n kind
  WithoutWords : IsFirstWithoutWords text n kind → HasFirstFault text n kind

-- A text has a fault at a line exactly where this line is the first with a fault, and the fault is its first.
abbrev pub FaultIsFirst : Type 0
FaultIsFirst = (text : List ℕ) (n : ℕ) (kind : Fault) → (program text ≡ Err (record { line = n; kind = kind })) ↔ HasFirstFault text n kind
