-- What processes have written, as it is.
use Rattle.std.specs.Prelude.{ℕ, ◌-◌, ◌==◌, nat_lt, cond, Option, Some, None, List, [], ◌∷◌, ◌++◌, length, codes, slice_get}
use Rattle.std.specs.Fmt.{decimal}
use Rattle.lab_sched.specs.Worlds.{machine_of, WorldState}
use Rattle.lab_texts.specs.Rows.{texts_below}
use Rattle.lab_texts.specs.Texts.{text_of}

-- a line feed behind bytes of which this is the last, where it is none
abbrev pub line_end : Option ℕ → List ℕ
line_end None = []
line_end (Some last) = cond (last == 10) [] (10 ∷ [])

-- bytes as they are, and a line feed where they don't end with one
abbrev pub as_lines : List ℕ → List ℕ
as_lines bytes = bytes ++ line_end (slice_get bytes (length bytes - 1))

-- the line that names a process, where there are more
abbrev pub name_line : ℕ → ℕ → List ℕ
name_line count pid = cond (nat_lt 1 count) (codes "process " ++ decimal pid ++ codes "\n") []

-- the name and the output of process pid
abbrev pub plain_part : ℕ → WorldState → List ℕ
plain_part pid w = name_line (length w.processes) pid
    ++ text_of (λ s. as_lines (machine_of s).output) (slice_get w.processes pid)

-- those of each process, in order
abbrev pub plain_output : WorldState → List ℕ
plain_output w = texts_below (length w.processes) (λ pid. plain_part pid w)
