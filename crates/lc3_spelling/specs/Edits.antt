-- How near a word is to a name.
use Rattle.std.specs.Prelude.{ℕ, Bool, ◌≡◌, ◌≤◌, ◌+◌, nat_le, nat_lt, ◌&&◌, ◌||◌, Option, Some, None, IfSome, option_map, slice_get, List, length, All, if◌then◌else◌}
use Rattle.std.specs.Str.{chars}
use Rattle.strsim.specs.Edits.{osa_table}

-- how many edits lead from one word to another, where none edits a character twice
abbrev pub edits : List ℕ → List ℕ → ℕ
edits word name = (osa_table (chars word) (chars name)).last_row (length (chars name))

-- whether two lengths are more than two apart
abbrev pub are_apart : ℕ → ℕ → Bool
are_apart m n = nat_lt (m + 2) n || nat_lt (n + 2) m

-- how many edits may lead from a word of this length to a name of that length
abbrev pub allowed : ℕ → ℕ → ℕ
allowed m n =
    if nat_le m 1 || nat_le n 1 || are_apart m n then 0
    else (if nat_le 5 m && nat_le 5 n then 2 else 1)

-- how many edits lead from a word to a name, where they are some and no more than allowed
unfoldable pub near_edits : List ℕ → List ℕ → Option ℕ
near_edits word name =
    if nat_le 1 (edits word name) && nat_le (edits word name) (allowed (length word) (length name))
    then Some (edits word name) else None

-- whether the name at this place is near the word and none is nearer; or none is near at all
abbrev pub IsNearest : {X : Type 0} → (X → List ℕ) → List ℕ → List X → Option ℕ → Type 0
IsNearest text word names None = All (λ n. near_edits word (text n) ≡ None) names
IsNearest text word names (Some i) =
    (least : ℕ) × (option_map (λ n. near_edits word (text n)) (slice_get names i) ≡ Some (Some least))
    × All (λ n. IfSome (near_edits word (text n)) (λ edits. least ≤ edits)) names
