-- How many descriptors and slots refer to a place.
use Rattle.std.specs.Prelude.{◌≡◌, ℕ, ◌+◌, ◌≤◌, Bool, if◌then◌else◌, List, length, All, sum_by, count_by, slice_index}
use Rattle.ipc_kernel.specs.Limits.{object_places, open_max, process_max}
use Rattle.ipc_kernel.specs.declared.process.OpenTables.{OpenTables}
use Rattle.ipc_kernel.specs.Processes.{slot_refers, descriptor_refers}

-- 1 where a test holds, and else 0
abbrev pub indicator : Bool → ℕ
indicator b = if b then 1 else 0

-- how many descriptors and slots of a process refer to a place
abbrev pub references_in : ℕ → OpenTables → ℕ
references_in place p = count_by (descriptor_refers place) p.descriptors + count_by (slot_refers place) p.slots

-- how many descriptors and slots of all processes refer to a place
abbrev pub references_to : ℕ → List OpenTables → ℕ
references_to place ps = sum_by (references_in place) ps

-- a process has 16 descriptors and 16 slots
abbrev pub HasFullTables : OpenTables → Type 0
HasFullTables p = (length p.descriptors ≡ open_max) × (length p.slots ≡ open_max)

-- the counts are the numbers of references, of at most 64 processes
pub record CountsReferences (ps : List OpenTables) (counts : List ℕ) : Type 0 where
  pub length_of_counts : length counts ≡ object_places
  pub few : length ps ≤ process_max
  pub full : All HasFullTables ps
  pub counted : (k : ℕ) → slice_index counts k ≡ references_to k ps
