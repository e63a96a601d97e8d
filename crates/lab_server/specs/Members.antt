-- Members of a message, by its value.
use Rattle.std.specs.Prelude.{ℕ, ◌-◌, if◌then◌else◌, ℤ, Option, Some, None, is_some, List, [], ◌∷◌, length, codes, slice_get}
use Rattle.std.specs.List.{list_all}
use Rattle.std.specs.Option.{option_map, option_and_then}
use Rattle.serde_json.specs.Data.{Data, Items, no_items, item}
use Rattle.serde_json.specs.Find.{get, as_str, as_array, as_object}
use Rattle.lab_server.specs.Messages.{integer_of}

-- the member of the member of this name
abbrev pub member_at : List ℕ → List ℕ → Data → Option Data
member_at object name d = option_and_then (get name) (get object d)

-- the text of this name in the object of this name
abbrev pub text_at : List ℕ → List ℕ → Data → Option (List ℕ)
text_at object name d = option_and_then as_str (member_at object name d)

-- the integer of this name in the object of this name
abbrev pub integer_at : List ℕ → List ℕ → Data → Option ℤ
integer_at object name d = option_and_then integer_of (member_at object name d)

-- items as a list
abbrev pub all_of : Items → List Data
all_of no_items = []
all_of (item d ds) = d ∷ all_of ds

-- the values of a list
abbrev pub list_of : Data → Option (List Data)
list_of d = option_map all_of (as_array d)

-- a text where no range is
abbrev pub unless_part : Option Data → Option Data → Option (List ℕ)
unless_part None text = option_and_then as_str text
unless_part (Some range) text = None

-- the text of a change that has the whole text
unfoldable pub whole_text : Data → Option (List ℕ)
whole_text d = unless_part (get (codes "range") d) (get (codes "text") d)

-- the text of the last change, if each has the whole text
abbrev pub last_text : List Data → Option (Option (List ℕ))
last_text ds =
    if list_all (λ d. is_some (whole_text d)) ds
    then Some (option_and_then whole_text (slice_get ds (length ds - 1)))
    else None

-- the text that a document becomes by changes, if it changes
unfoldable pub changed_text : Data → Option (Option (List ℕ))
changed_text d = option_and_then last_text (option_and_then list_of (get (codes "contentChanges") d))

-- a value where it is an object
abbrev pub if_object : Data → Option Data
if_object d = if is_some (as_object d) then Some d else None

-- parameters, where they are an object
abbrev pub object_of : Option Data → Option Data
object_of params = option_and_then if_object params
