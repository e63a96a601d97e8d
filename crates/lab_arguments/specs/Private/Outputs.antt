-- The pieces of values of `--require` that aren't words.
use Rattle.std.specs.Prelude.{ℕ, if◌then◌else◌, List, [], ◌∷◌, filter}
use Rattle.lab_arguments.specs.Pieces.{cut_pieces, is_of_calls, is_output}

-- the pieces of a value that say what is required of outputs, or the whole value where it asks of calls
abbrev pub outputs_of : List ℕ → List (List ℕ)
outputs_of value = if is_of_calls value then value ∷ [] else filter is_output (cut_pieces value)
