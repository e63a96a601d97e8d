-- What the words of `--require` and `--show` say.
use Rattle.std.specs.Prelude.{ℕ, ◌≡◌, ◌+◌, ◌==◌, Bool, true, false, Option, Some, None, List, codes, filter, flat_map, length, bytes_eq}
use Rattle.std.specs.List.{count_by, slice_split}
use Rattle.lab_arguments.specs.Private.Outputs.{outputs_of}
use Rattle.lab_arguments.specs.declared.requirements.Requirements.{Requirements}
use Rattle.lab_arguments.specs.declared.requirements.Rest.{Rest}
use Rattle.lab_arguments.specs.declared.requirements.Rest.TheVariants.{Ended, Stuck, Halted}

-- how often a word stands among words
abbrev pub how_often : List ℕ → List (List ℕ) → ℕ
how_often word words = count_by (bytes_eq word) words

-- how often `ended`, `stuck` and `halted` must stand there for a way to come to rest
abbrev pub rest_counts : Option Rest → ℕ × ℕ × ℕ
rest_counts None = (0, 0, 0)
rest_counts (Some Ended) = (1, 0, 0)
rest_counts (Some Stuck) = (0, 1, 0)
rest_counts (Some Halted) = (0, 0, 1)

-- once where that is required, else not at all
abbrev pub once_if : Bool → ℕ
once_if true = 1
once_if false = 0

-- these words, each once and with no others, require that
pub record AreRequired (words : List (List ℕ)) (r : Requirements) : Type 0 where
  pub rest : (how_often (codes "ended") words, how_often (codes "stuck") words, how_often (codes "halted") words) ≡ rest_counts r.rest
  pub empty : how_often (codes "empty") words ≡ once_if r.empty
  pub same : how_often (codes "same") words ≡ once_if r.same
  pub known : how_often (codes "ended") words + how_often (codes "stuck") words + how_often (codes "halted") words
      + how_often (codes "empty") words + how_often (codes "same") words ≡ length words

-- nothing is required
abbrev pub nothing : Requirements
nothing = record { rest = None; empty = false; same = false }

-- the words of a text, between commas
abbrev pub words_of : List ℕ → List (List ℕ)
words_of text = slice_split (λ c. c == 44) text

-- what some values say of outputs and calls
abbrev pub outputs_in : List (List ℕ) → List (List ℕ)
outputs_in values = flat_map outputs_of values

-- these words, each once and with no others, show `out` or not, and `left` or not
pub record AreShown (words : List (List ℕ)) (out left : Bool) : Type 0 where
  pub shows_out : how_often (codes "out") words ≡ once_if out
  pub shows_left : how_often (codes "left") words ≡ once_if left
  pub known : how_often (codes "out") words + how_often (codes "left") words ≡ length words
