-- The words that the steps of a run store.
use Rattle.std.specs.Prelude.{ℕ, ◌+◌, ◌==◌, nat_le, if◌then◌else◌, min, Option, Some, None, List, [], ◌∷◌, ◌++◌, length, map, slice_get, slice_index}
use Rattle.std.specs.Option.{option_and_then, option_map_or}
use Rattle.serde_json.specs.Data.{Data}
use Rattle.lab_sched.specs.Schedules.{steps_of}
use Rattle.lab_sched.specs.Worlds.{Process, WorldState, machine_of, step}
use Rattle.lab_sched.specs.declared.schedule.Block.{Block}
use Rattle.lab_template.specs.Limits.{most_whole}
use Rattle.lab_moments.specs.States.{memory_from}
use Rattle.lab_moments.specs.Values.{list, natural, all_below}
use Rattle.lab_page.specs.declared.source.Source.{Source}
use Rattle.lab_page.specs.declared.run.Stored.{Stored}

-- the source of process p, where there is one
abbrev pub source_in : List (Option Source) → ℕ → Option Source
source_in sources p = option_and_then (λ s. s) (slice_get sources p)

-- the address of the first of its words
abbrev pub origin_at : List (Option Source) → ℕ → ℕ
origin_at sources p = option_map_or (λ s. s.origin) (source_in sources p) 0

-- what the memory of a process holds where a source has words
abbrev pub held_words : Option Source → Option Process → List ℕ
held_words None x = []
held_words (Some s) None = []
held_words (Some s) (Some x) = memory_from (machine_of x) s.origin (length s.words.items)

-- what that of process p of a world holds where its source has words
abbrev pub held_at : List (Option Source) → WorldState → ℕ → List ℕ
held_at sources w p = held_words (source_in sources p) (slice_get w.processes p)

-- a word behind a step, where it isn't the word before it
abbrev pub changed : Stored → ℕ → List Stored
changed s before = if s.word == before then [] else s ∷ []

-- the words behind step n, of process p, from an address on, that aren't those before it
unfoldable pub changed_words : ℕ → ℕ → ℕ → List ℕ → List ℕ → List Stored
changed_words n p first before after =
    all_below (min (length after) (length before))
    (λ i. changed (record { step = n; process = p; address = first + i; word = slice_index after i }) (slice_index before i))

-- what step n of a world, of process p, stores where the source of the process has words
abbrev pub stored_by : List (Option Source) → ℕ → WorldState → ℕ → List Stored
stored_by sources n w p = changed_words n p (origin_at sources p) (held_at sources w p) (held_at sources (step w p) p)

-- what these steps of a world store, of which the first has number n
unfoldable pub stores_from : List (Option Source) → ℕ → WorldState → List ℕ → List Stored
stores_from sources n w [] = []
stores_from sources n w (p ∷ ps) = stored_by sources n w p ++ stores_from sources (n + 1) (step w p) ps

-- what the steps of a schedule store that a world takes, where a page has each of them
unfoldable pub stores_of : WorldState → List Block → List (Option Source) → List Stored
stores_of w s sources = if nat_le (length (steps_of s)) most_whole then stores_from sources 1 w (steps_of s) else []

-- a word that a step stores: the step's number, its process, the address and the word
abbrev pub stored_data : Stored → Data
stored_data s = list (natural s.step ∷ natural s.process ∷ natural s.address ∷ natural s.word ∷ [])

-- what steps store
abbrev pub stores_data : List Stored → Data
stores_data ss = list (map stored_data ss)
