-- What a process of the machine is: its registers, its memory and what stands on its console.
-- Sections A.1 to A.3 are those of Patt and Patel, Introduction to Computing Systems, 2nd edition, appendix A.
use Rattle.std.specs.Prelude.{ℕ, ℤ, Bool, true, false, ◌+◌, ◌++◌, ◌-◌, List, [], length, replicate, slice_index, slice_set, nat_lt, if◌then◌else◌}
use Rattle.lc3_word.specs.declared.code.Cc.{Cc}
use Rattle.lc3_word.specs.declared.code.Cc.TheVariants.{Z}
use Rattle.lc3_word.specs.Words.{low_bits, word_sum}
use Rattle.lc3_word.specs.Codes.{cc_of}
use Rattle.lc3_word.specs.Segment.{first_device}
use Rattle.lc3_table.specs.declared.profile.Profile.{Profile}
use Rattle.lc3_machine.specs.declared.want.Want.{Want}
use Rattle.lc3_machine.specs.declared.want.Want.TheVariants.{End}
use Rattle.lc3_machine.specs.declared.want.How.{How}
use Rattle.lc3_machine.specs.declared.want.How.TheVariants.{Device}

-- the profile of the machine, eight registers, the program counter, the condition code, 65,536 words of memory,
-- the bytes of input that are left, and the bytes of output so far (A.1)
pub record Process : Type 0 where
  pub profile : Profile
  pub regs : List ℕ
  pub pc : ℕ
  pub cc : Cc
  pub memory : List ℕ
  pub input : List ℕ
  pub output : List ℕ

-- a process, and for each page of 256 words whether it can be written without taking memory
pub record Held : Type 0 where
  pub process : Process
  pub ready : List Bool

-- a process that has ended, and how
pub record EndedProcess : Type 0 where
  pub process : Process
  pub how : How

-- what the next step of a process is: it goes on by itself, or it stops and wants an answer or its end
pub data Outcome : Type 0 where
  GoesOn : Process → Outcome
  Stops : Want → Outcome

-- so many zero words
unfoldable pub zeros : ℕ → List ℕ
zeros n = replicate n 0

-- memory that is zero but for the words from an origin on
unfoldable pub memory_of : ℕ → List ℕ → List ℕ
memory_of origin words = zeros origin ++ words ++ zeros (65536 - (origin + length words))

-- a process at its start
abbrev pub start : Profile → ℕ → List ℕ → List ℕ → Process
start profile origin words input =
    record {
      profile = profile;
      regs = replicate 8 0;
      pc = origin;
      cc = Z;
      memory = memory_of origin words;
      input = input;
      output = [];
    }

-- a sign-extended number, as a word (A.2: SEXT)
abbrev pub signed_word : ℤ → ℕ
signed_word z = low_bits 16 z

-- a register
abbrev pub reg : Process → ℕ → ℕ
reg p r = slice_index p.regs r

-- the incremented program counter
abbrev pub next_pc : Process → ℕ
next_pc p = word_sum p.pc 1

-- the address at an offset from the incremented program counter
abbrev pub target : Process → ℤ → ℕ
target p offset = word_sum (next_pc p) (signed_word offset)

-- the process that goes on at the next instruction
abbrev pub at_next_instruction : Process → Process
at_next_instruction p = record p { pc = next_pc p }

-- the process that goes on elsewhere
abbrev pub at_address : Process → ℕ → Process
at_address p address = record p { pc = address }

-- the process with a register set
abbrev pub with_reg : Process → ℕ → ℕ → Process
with_reg p r value = record p { regs = slice_set p.regs r value }

-- the process that goes on at a routine, with the address of its next instruction in R7
abbrev pub at_routine : Process → ℕ → Process
at_routine p routine = at_address (with_reg p 7 (next_pc p)) routine

-- the process with a result in a register, and the condition code of that result
abbrev pub with_result : Process → ℕ → ℕ → Process
with_result p r value = record (with_reg p r value) { cc = cc_of value }

-- the process with a word of memory set
abbrev pub with_word : Process → ℕ → ℕ → Process
with_word p address word = record p { memory = slice_set p.memory address word }

-- the process with more output
abbrev pub with_output : Process → List ℕ → Process
with_output p bytes = record p { output = p.output ++ bytes }

-- the process with this output in place of its own
abbrev pub with_whole_output : Process → List ℕ → Process
with_whole_output p bytes = record p { output = bytes }

-- what happens with the word at an address; the device registers, xFE00 and above, end the process (A.1)
abbrev pub at_word : Process → ℕ → (ℕ → Outcome) → Outcome
at_word p address continued =
    if nat_lt address first_device then continued (slice_index p.memory address) else Stops (End Device)

-- what happens once the word at an address is loaded into a register
abbrev pub outcome_of_load : Process → ℕ → ℕ → Outcome
outcome_of_load p r address = at_word p address (λ word. GoesOn (at_next_instruction (with_result p r word)))

-- what happens once a word is stored; the device registers end the process
abbrev pub outcome_of_store : Process → ℕ → ℕ → Outcome
outcome_of_store p address word = if nat_lt address first_device then GoesOn (at_next_instruction (with_word p address word)) else Stops (End Device)

-- whether an outcome is that the process goes on
abbrev pub goes_on : Outcome → Bool
goes_on (GoesOn p) = true
goes_on (Stops want) = false
