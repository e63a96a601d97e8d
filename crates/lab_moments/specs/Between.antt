-- The steps between two lines of the trace: of each process those since the last line, of whichever process.
use Rattle.std.specs.Prelude.{ℕ, ◌+◌, ◌==◌, ◌&&◌, Bool, if◌then◌else◌, List, [], ◌∷◌, length, replicate, slice_index_or, slice_set}
use Rattle.serde_json.specs.Data.{Data}
use Rattle.lab_told.specs.declared.told.Told.{Told}
use Rattle.lab_told.specs.declared.told.Told.TheVariants.{Nothing, Counted, Shown}
use Rattle.lab_moments.specs.Values.{list, natural, all_below}
use Rattle.lab_moments.specs.declared.past.StepCount.{StepCount}

-- no step of a process
abbrev pub no_steps : StepCount
no_steps = record { local = 0; idle = 0 }

-- no step of each of so many processes
abbrev pub none_between : ℕ → List StepCount
none_between count = replicate count no_steps

-- those of process p
abbrev pub count_of : List StepCount → ℕ → StepCount
count_of b p = slice_index_or b p no_steps

-- with counted steps and steps without an effect more
abbrev pub with_steps : ℕ → ℕ → StepCount → StepCount
with_steps local idle c = record { local = c.local + local; idle = c.idle + idle }

-- how many of n steps without an effect are told: all of a process that waits, and none of one that has ended
abbrev pub idle_of : ℕ → Bool → ℕ
idle_of n waits = if waits then n else 0

-- after n steps of process p, which waits before them or doesn't, of which this is told
abbrev pub between_after : ℕ → ℕ → Bool → Told → List StepCount → List StepCount
between_after n p waits Nothing b = slice_set b p (with_steps 0 (idle_of n waits) (count_of b p))
between_after n p waits Counted b = slice_set b p (with_steps n 0 (count_of b p))
between_after n p waits (Shown e) b = none_between (length b)

-- the steps of process p, where there are any
abbrev pub count_data : ℕ → StepCount → List Data
count_data p c = if (c.local == 0) && (c.idle == 0) then [] else list (natural p ∷ natural c.local ∷ natural c.idle ∷ []) ∷ []

-- of each process that took steps how many are counted, and how many have no effect
unfoldable pub between_data : List StepCount → Data
between_data b = list (all_below (length b) (λ p. count_data p (count_of b p)))
