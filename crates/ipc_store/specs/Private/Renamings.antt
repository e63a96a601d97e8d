-- Renamings of object places, as the code keeps them: two lists that undo each other.
use Rattle.std.specs.Prelude.{◌≡◌, ℕ, ◌==◌, ◌<◌, ◌≤◌, List, Some, length, slice_get, unwrap_or, if◌then◌else◌}
use Rattle.ipc_kernel.specs.Limits.{object_places}
use Rattle.ipc_kernel.specs.Alike.{IsPermutation}
use Rattle.ipc_store.specs.declared.alike.Renaming.{Renaming}

-- where a list of numbers takes a place; one behind its end stays
abbrev pub renamed_by : List ℕ → ℕ → ℕ
renamed_by to i = unwrap_or (slice_get to i) i

-- the two lists of a renaming undo each other, and rename the object places among themselves
abbrev pub Permutes : Renaming → Type 0
Permutes r = IsPermutation (renamed_by r.to) (renamed_by r.from)

-- the later renaming takes an object place where f does if the earlier one does so, or if it is one of these
pub record Follows (f : ℕ → ℕ) (these : ℕ → Type 0) (earlier later : Renaming) : Type 0 where
  pub kept : (i : ℕ) → renamed_by earlier.to i ≡ f i → renamed_by later.to i ≡ f i
  pub taken : (i : ℕ) → i < object_places → these i → renamed_by later.to i ≡ f i

-- numbers, where another one stands at a place, stand among others where a list takes their places, and none stands behind the object
-- places
pub record IsMoved (ns : List ℕ) (place number : ℕ) (moved to : List ℕ) : Type 0 where
  pub inside : place < object_places
  pub few : length ns ≤ object_places
  pub few_moved : length moved ≤ object_places
  pub there : (i : ℕ) → i < object_places → slice_get moved (renamed_by to i) ≡ (if i == place then Some number else slice_get ns i)
