-- Candidates for a suggestion.
use Rattle.std.specs.Prelude.{ℕ, ◌≡◌, ◌≤◌, ◌⊎◌, Option, Some, None, List, All, IfSome, option_map, slice_get}
use Rattle.lc3_spelling.specs.Edits.{near_edits}
use Rattle.lc3_spelling.specs.declared.choice.Candidate.{Candidate}

-- one of two candidates that are there, with as many edits as either or fewer, or else the one that is there
abbrev pub IsNearer : Option Candidate → Option Candidate → Option Candidate → Type 0
IsNearer None next result = result ≡ next
IsNearer (Some b) None result = result ≡ Some b
IsNearer (Some b) (Some n) result =
    ((result ≡ Some b) × (b.edits ≤ n.edits)) ⊎ ((result ≡ Some n) × (n.edits ≤ b.edits))

-- the best of the names that were seen, with its edits
abbrev pub IsBest : {X : Type 0} → (X → List ℕ) → List ℕ → List X → List X → Option Candidate → Type 0
IsBest text word names seen None = All (λ n. near_edits word (text n) ≡ None) seen
IsBest text word names seen (Some c) =
    (option_map (λ n. near_edits word (text n)) (slice_get names c.index) ≡ Some (Some c.edits))
    × All (λ n. IfSome (near_edits word (text n)) (λ edits. c.edits ≤ edits)) seen
