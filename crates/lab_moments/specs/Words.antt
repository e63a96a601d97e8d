-- The words that a page shows, and what they mean.
use Rattle.std.specs.Prelude.{ℕ, Bool, true, false, if◌then◌else◌, Option, List, [], ◌∷◌, fold, length, replicate, slice_index_or, slice_set}
use Rattle.std.specs.Option.{option_map, option_to_list}
use Rattle.serde_json.specs.Data.{Data, string}
use Rattle.lc3_table.specs.Text.{word_text}
use Rattle.lab_sched.specs.Worlds.{WorldState}
use Rattle.lab_told.specs.Services.{service_of_word}
use Rattle.ipc_traps.specs.Services.{service_name}
use Rattle.ipc_traps.specs.declared.service.Service.{Service}
use Rattle.lab_moments.specs.States.{shown_in}
use Rattle.lab_moments.specs.Values.{list, natural, all_below}

-- the name of a call, where there is one
abbrev pub call_names : Option Service → List Data
call_names s = option_to_list (option_map (λ x. string (service_name x)) s)

-- a word, the text of its instruction, and the name of the call that it makes, where it makes one
unfoldable pub word_data : ℕ → Data
word_data word = list (natural word ∷ string (word_text word) ∷ call_names (service_of_word word))

-- of each of so many words whether it was seen: none was
unfoldable pub none_seen : ℕ → List Bool
none_seen count = replicate count false

-- the words that were seen, with these
abbrev pub seen_with : List Bool → List ℕ → List Bool
seen_with seen words = fold (λ s word. slice_set s word true) seen words

-- those around the program counters of a world
abbrev pub first_seen : WorldState → List Bool
first_seen w = seen_with (none_seen 65536) (all_below (length w.processes) (shown_in w))

-- a word with its text, if it was seen
abbrev pub text_of : List Bool → ℕ → List Data
text_of seen word = if slice_index_or seen word false then word_data word ∷ [] else []

-- each word that was seen with its text, in ascending order
unfoldable pub texts_data : List Bool → Data
texts_data seen = list (all_below 65536 (text_of seen))
