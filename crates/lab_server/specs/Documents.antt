-- The texts that an editor has open, each with its name.
use Rattle.std.specs.Prelude.{ℕ, Bool, Option, Some, None, List, [], ◌∷◌, ◌++◌, bytes_eq, slice_get, slice_set, position}
use Rattle.std.specs.List.{remove}
use Rattle.std.specs.Option.{option_map, option_and_then}

-- a name and a text
abbrev pub Document : Type 0
Document = List ℕ × List ℕ

-- whether a document has this name
abbrev pub is_of : List ℕ → Document → Bool
is_of uri d = bytes_eq d.0 uri

-- the text of this name
abbrev pub text_of : List ℕ → List Document → Option (List ℕ)
text_of uri ds = option_map (λ d. d.1) (option_and_then (slice_get ds) (position (is_of uri) ds))

-- with a document in the place of the one of its name, or at the end
abbrev pub put_at : Option ℕ → Document → List Document → List Document
put_at None d ds = ds ++ d ∷ []
put_at (Some place) d ds = slice_set ds place d

-- with this text under this name
abbrev pub put : List ℕ → List ℕ → List Document → List Document
put uri text ds = put_at (position (is_of uri) ds) (uri, text) ds

-- without the document in this place
abbrev pub without_at : Option ℕ → List Document → List Document
without_at None ds = ds
without_at (Some place) ds = remove ds place

-- without the document of this name
abbrev pub without : List ℕ → List Document → List Document
without uri ds = without_at (position (is_of uri) ds) ds
