-- The texts that show the processes of a world.
use Rattle.std.specs.Prelude.{ℕ, Bool, ◌+◌, ◌/◌, ◌%◌, ◌==◌, ◌&&◌, not, nat_le, nat_lt, if◌then◌else◌, true, Option, Some, None, List, [], ◌∷◌, ◌++◌, length, codes, flat_map, slice_get, slice_index}
use Rattle.std.specs.Fmt.{decimal, digit_glyph}
use Rattle.lc3_word.specs.Words.{hexadecimal_text, register_text}
use Rattle.lc3_word.specs.declared.code.Cc.{Cc}
use Rattle.lc3_word.specs.declared.code.Cc.TheVariants.{N, Z, P}
use Rattle.lc3_word.specs.Segment.{first_device}
use Rattle.lc3_table.specs.Profiles.{profile_letter}
use Rattle.lc3_table.specs.Text.{word_text, line_text}
use Rattle.lc3_machine.specs.declared.want.How.{How}
use Rattle.lc3_machine.specs.declared.want.How.TheVariants.{Halt, Illegal, Device, BadTrap, NoInput}
use Rattle.lc3_machine.specs.Process.{Process as Machine, reg}
use Rattle.lab_sched.specs.Worlds.{machine_of, first_profile, Process, Running, Waiting, Ended, WorldState}
use Rattle.lab_texts.specs.Rows.{texts_below}

-- the text of a process, where it is there
abbrev pub text_of : (Process → List ℕ) → Option Process → List ℕ
text_of text None = []
text_of text (Some s) = text s

-- how a process ended
abbrev pub how_text : How → List ℕ
how_text Halt = codes "halt"
how_text Illegal = codes "illegal"
how_text Device = codes "device"
how_text BadTrap = codes "badtrap"
how_text NoInput = codes "noinput"

-- the word at the program counter, or a dash in the device register page
unfoldable pub place_text : Machine → List ℕ
place_text m = if nat_lt m.pc first_device then word_text (slice_index m.memory m.pc) else codes "-"

-- where a process stands
abbrev pub state_text : Process → List ℕ
state_text (Running m) = codes "running " ++ hexadecimal_text m.pc ++ codes " " ++ place_text m
state_text (Waiting m c) = codes "waiting " ++ hexadecimal_text m.pc ++ codes " " ++ place_text m
state_text (Ended e) = codes "ended " ++ hexadecimal_text e.process.pc ++ codes " " ++ how_text e.how

-- the number of a process and where it stands
unfoldable pub status_line : ℕ → Process → List ℕ
status_line pid s = decimal pid ++ codes " " ++ state_text s ++ codes "\n"

-- the status line of process pid
abbrev pub status_text : ℕ → WorldState → List ℕ
status_text pid w = text_of (status_line pid) (slice_get w.processes pid)

-- each status line
abbrev pub procs_text : WorldState → List ℕ
procs_text w = texts_below (length w.processes) (λ pid. status_text pid w)

-- the profile that the processes have
abbrev pub profile_text : WorldState → List ℕ
profile_text w = codes "profile " ++ profile_letter (first_profile w.processes) ++ codes "\n"

-- the letter of a condition code
abbrev pub code_text : Cc → List ℕ
code_text N = codes "N"
code_text Z = codes "Z"
code_text P = codes "P"

-- a register and a blank
unfoldable pub register_part : Machine → ℕ → List ℕ
register_part m r = register_text r ++ codes " " ++ hexadecimal_text (reg m r) ++ codes " "

-- the program counter and the condition code
unfoldable pub counter_part : Machine → List ℕ
counter_part m = codes "PC " ++ hexadecimal_text m.pc ++ codes " CC " ++ code_text m.cc ++ codes "\n"

-- R0 to R7, the program counter and the condition code
abbrev pub regs_line : Machine → List ℕ
regs_line m = texts_below 8 (register_part m) ++ counter_part m

-- the registers of process pid
abbrev pub regs_text : ℕ → WorldState → List ℕ
regs_text pid w = text_of (λ s. regs_line (machine_of s)) (slice_get w.processes pid)

-- an address and its word
unfoldable pub word_line : ℕ → ℕ → List ℕ
word_line a w = hexadecimal_text a ++ codes " " ++ hexadecimal_text w ++ codes "\n"

-- n words of memory from an address on, each on a line
abbrev pub memory_lines : (ℕ → ℕ → List ℕ) → ℕ → ℕ → Machine → List ℕ
memory_lines line a n m = texts_below n (λ i. line (a + i) (slice_index m.memory (a + i)))

-- n words of process pid from address a on
abbrev pub mem_text : ℕ → ℕ → ℕ → WorldState → List ℕ
mem_text pid a n w =
    text_of (λ s. memory_lines word_line a n (machine_of s)) (slice_get w.processes pid)

-- the same with the text of each word
abbrev pub dis_text : ℕ → ℕ → ℕ → WorldState → List ℕ
dis_text pid a n w =
    text_of (λ s. memory_lines line_text a n (machine_of s)) (slice_get w.processes pid)

-- a byte that can be printed and is no backslash
unfoldable pub is_plain : ℕ → Bool
is_plain b = nat_le 32 b && (nat_le b 126 && not (b == 92))

-- a byte as two hexadecimal digits after a backslash and x
abbrev pub escape_text : ℕ → List ℕ
escape_text b = codes "\\x" ++ digit_glyph true (b / 16) ∷ digit_glyph true (b % 16) ∷ []

-- a byte as it is where it is plain, else as two hexadecimal digits
unfoldable pub escape_of : ℕ → List ℕ
escape_of b = if is_plain b then b ∷ [] else escape_text b

-- nothing, or a blank and the bytes
abbrev pub output_part : List ℕ → List ℕ
output_part [] = []
output_part (b ∷ bs) = codes " " ++ flat_map escape_of (b ∷ bs)

-- the bytes that a process has written
unfoldable pub out_line : ℕ → List ℕ → List ℕ
out_line pid output = codes "out " ++ decimal pid ++ output_part output ++ codes "\n"

-- the bytes that process pid has written
abbrev pub out_text : ℕ → WorldState → List ℕ
out_text pid w = text_of (λ s. out_line pid (machine_of s).output) (slice_get w.processes pid)
