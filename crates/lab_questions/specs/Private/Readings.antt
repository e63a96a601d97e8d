-- What is read of a need so far.
use Rattle.std.specs.Prelude.{ℕ, Bool, true, false, List, [], ◌∷◌, ◌++◌}
use Rattle.lab_questions.specs.Written.{Part}

-- alternatives, one of which these parts begin, with what stands behind them
abbrev pub joined : List (List Part) → List Part → List Part × List (List Part) → List (List Part)
joined alternatives parts m = alternatives ++ (parts ++ m.0) ∷ m.1

-- alternatives, with these parts as the last where they are whole
abbrev pub ended : Bool → List (List Part) → List Part → List (List Part)
ended true alternatives parts = alternatives ++ parts ∷ []
ended false alternatives parts = alternatives

-- the parts, unless they are whole
abbrev pub left : Bool → List Part → List Part
left true parts = []
left false parts = parts

-- characters before those of a string, with what stands behind it
abbrev pub behind_these : List ℕ → List ℕ × List ℕ → List ℕ × List ℕ
behind_these front s = (front ++ s.0, s.1)
