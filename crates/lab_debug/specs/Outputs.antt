-- What a process has written, as it is.
use Rattle.std.specs.Prelude.{ℕ, ◌-◌, ◌==◌, if◌then◌else◌, Option, Some, None, List, ◌++◌, codes, length, slice_get}
use Rattle.lab_sched.specs.Worlds.{WorldState, machine_of}
use Rattle.lab_texts.specs.Texts.{text_of}

-- bytes of which this is the last, and a line feed where it is another byte
abbrev pub with_feed : Option ℕ → List ℕ → List ℕ
with_feed None bytes = bytes
with_feed (Some last) bytes = if last == 10 then bytes else bytes ++ codes "\n"

-- bytes, and a line feed where a line is left open
abbrev pub whole_lines : List ℕ → List ℕ
whole_lines bytes = with_feed (slice_get bytes (length bytes - 1)) bytes

-- the bytes that process pid has written, and a line feed where a line is left open
abbrev pub raw_output : ℕ → WorldState → List ℕ
raw_output pid w = text_of (λ s. whole_lines (machine_of s).output) (slice_get w.processes pid)
