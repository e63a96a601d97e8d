-- A process at a moment.
use Rattle.std.specs.Prelude.{ℕ, ◌+◌, ◌-◌, min, Option, Some, None, List, [], ◌∷◌, slice_get, slice_index, length}
use Rattle.serde_json.specs.Data.{Data, null, string}
use Rattle.lc3_word.specs.Segment.{first_device}
use Rattle.lc3_machine.specs.Process.{Process as Machine, reg}
use Rattle.lab_sched.specs.Worlds.{Process, WorldState, machine_of}
use Rattle.lab_texts.specs.Texts.{code_text}
use Rattle.lab_moments.specs.Values.{list, natural, naturals, all_below}

-- how many words are shown around a program counter: three before it, and five from it on, below the device registers
abbrev pub shown_count : ℕ → ℕ
shown_count pc = min (pc + 5) first_device - (pc - 3)

-- so many words of a memory from an address on, as far as there are
unfoldable pub memory_from : Machine → ℕ → ℕ → List ℕ
memory_from m first count = all_below (min count (65536 - first)) (λ i. slice_index m.memory (first + i) ∷ [])

-- the words around a program counter
abbrev pub words_around : Machine → List ℕ
words_around m = memory_from m (m.pc - 3) (shown_count m.pc)

-- R0 to R7
abbrev pub registers : Machine → List Data
registers m = all_below 8 (λ r. natural (reg m r) ∷ [])

-- program counter, condition code and registers, and from which address on which words stand around the program counter
unfoldable pub state_data : Machine → Data
state_data m =
    list (natural m.pc ∷ string (code_text m.cc) ∷ list (registers m) ∷ natural (m.pc - 3)
    ∷ naturals (words_around m) ∷ [])

-- a process, where it is there
abbrev pub state_of : Option Process → Data
state_of None = null
state_of (Some s) = state_data (machine_of s)

-- process p of a world
unfoldable pub state_in : WorldState → ℕ → Data
state_in w p = state_of (slice_get w.processes p)

-- the words around the program counter of a process, where it is there
abbrev pub shown_of : Option Process → List ℕ
shown_of None = []
shown_of (Some s) = words_around (machine_of s)

-- those of process p of a world
abbrev pub shown_in : WorldState → ℕ → List ℕ
shown_in w p = shown_of (slice_get w.processes p)

-- the processes of a world
abbrev pub states : WorldState → Data
states w = list (all_below (length w.processes) (λ p. state_in w p ∷ []))
