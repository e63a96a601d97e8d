-- The console traps (appendix A, table A.2). Each is one step, which goes on at the incremented program counter and, in
-- profile A, puts it into R7. A trap leaves the condition code as it was.
use Rattle.std.specs.Prelude.{ℕ, ◌/◌, ◌%◌, ◌++◌, List, [], ◌∷◌, take, drop, option_map, map, flat_map, slice_set, position, codes, ◌==◌, if◌then◌else◌, Option, Some, None}
use Rattle.lc3_machine.specs.declared.want.Want.TheVariants.{End}
use Rattle.lc3_machine.specs.declared.want.How.TheVariants.{Device, NoInput}
use Rattle.lc3_table.specs.declared.profile.Profile.{Profile}
use Rattle.lc3_table.specs.declared.profile.Profile.TheVariants as profile
use Rattle.lc3_machine.specs.Process.{Process, Outcome, GoesOn, Stops, reg, next_pc, with_reg, at_next_instruction, with_output}
use Rattle.lc3_word.specs.Segment.{first_device}

-- the registers after a trap that goes on at an address: it stands in R7 in profile A, and in profile B R7 is as it was
abbrev pub registers_after_trap : Profile → List ℕ → ℕ → List ℕ
registers_after_trap profile.A regs address = slice_set regs 7 address
registers_after_trap profile.B regs address = regs

-- the process after a trap
abbrev pub after_trap : Process → Process
after_trap p = at_next_instruction (record p { regs = registers_after_trap p.profile p.regs (next_pc p) })

-- the words from an address on, up to the device registers
unfoldable pub words_from : List ℕ → ℕ → List ℕ
words_from memory address = drop address (take first_device memory)

-- the words from an address up to the first x0000, if there is one before the device registers
unfoldable pub string_at : List ℕ → ℕ → Option (List ℕ)
string_at memory address =
    option_map (λ n. take n (words_from memory address)) (position (λ w. w == 0) (words_from memory address))

-- the byte in the lower half of a word
abbrev pub low_byte : ℕ → ℕ
low_byte w = w % 256

-- the bytes of a word of a packed string: the low one, then the high one if it is not zero
abbrev pub packed_bytes : ℕ → List ℕ
packed_bytes w = if w / 256 == 0 then low_byte w ∷ [] else low_byte w ∷ w / 256 ∷ []

-- GETC: the next byte of the input into R0
abbrev pub getc : Process → List ℕ → Outcome
getc p [] = Stops (End NoInput)
getc p (byte ∷ left) = GoesOn (after_trap (record (with_reg p 0 byte) { input = left }))

-- OUT: the low byte of R0 to the output
abbrev pub out : Process → Outcome
out p = GoesOn (after_trap (with_output p (low_byte (reg p 0) ∷ [])))

-- what IN writes before it reads
abbrev pub prompt : List ℕ
prompt = codes "Input a character> "

-- IN: the prompt to the output, the next byte of the input into R0, that byte and a line feed to the output
abbrev pub outcome_of_in : Process → List ℕ → Outcome
outcome_of_in p [] = Stops (End NoInput)
outcome_of_in p (byte ∷ left) =
    GoesOn (after_trap (with_output (record (with_reg p 0 byte) { input = left }) (prompt ++ byte ∷ 10 ∷ [])))

-- what happens once the bytes of a string are written; one that reaches the device registers ends the process
abbrev pub outcome_of_string : Process → (List ℕ → List ℕ) → Option (List ℕ) → Outcome
outcome_of_string p bytes None = Stops (End Device)
outcome_of_string p bytes (Some words) = GoesOn (after_trap (with_output p (bytes words)))

-- PUTS: the low byte of each word of the string whose address is in R0
abbrev pub puts : Process → Outcome
puts p = outcome_of_string p (map low_byte) (string_at p.memory (reg p 0))

-- PUTSP: the bytes of each word of the packed string whose address is in R0
abbrev pub putsp : Process → Outcome
putsp p = outcome_of_string p (flat_map packed_bytes) (string_at p.memory (reg p 0))
