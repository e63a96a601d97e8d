-- The lines of a text.
use Rattle.std.specs.Prelude.{ℕ, ◌≡◌, List, [], ◌∷◌, ◌++◌}

-- a text of whole lines: it's empty, or ends with a line feed
abbrev pub AreLines : List ℕ → Type 0
AreLines [] = Unit {0}
AreLines (c ∷ []) = c ≡ 10
AreLines (c ∷ d ∷ rest) = AreLines (d ∷ rest)

-- these lines stand in the text, behind whole lines
pub record StandIn (these text : List ℕ) : Type 0 where
  pub above : List ℕ
  pub below : List ℕ
  pub whole : AreLines above
  pub stand : text ≡ above ++ (these ++ below)

-- these lines are the last of the text, behind whole lines
pub record AreLast (these text : List ℕ) : Type 0 where
  pub above : List ℕ
  pub whole : AreLines above
  pub ends : text ≡ above ++ these
