-- How the rows of kernels that are kept stand among numbers.
use Rattle.std.specs.Prelude.{◌≡◌, ℕ, ◌+◌, ◌≤◌, ◌⊎◌, List, [], ◌∷◌, ◌++◌, Some, length, take, drop, slice_get}
use Rattle.ipc_kernel.specs.declared.place.Place.{Place}
use Rattle.ipc_kernel.specs.declared.process.OpenTables.{OpenTables}
use Rattle.ipc_store.specs.declared.kept.rows.Span.{Span}
use Rattle.ipc_store.specs.Rows.{KernelRow}

-- the row of these numbers of objects and of tables
abbrev pub row : List ℕ → List ℕ → KernelRow
row objects tables = record { objects = objects; tables = tables }

-- what stands in the one list stands at the same place in the other
abbrev pub Grows : {X : Type 0} → List X → List X → Type 0
Grows {X} xs ys = (i : ℕ) (x : X) → slice_get xs i ≡ Some x → slice_get ys i ≡ Some x

-- a row is added to others, or nothing is
abbrev pub AddsRow : List KernelRow → List KernelRow → KernelRow → Type 0
AddsRow old new r = (new ≡ old) ⊎ (new ≡ old ++ r ∷ [])

-- each number of a row is that of an object, or of tables
pub record IsRow (objects : List Place) (tables : List OpenTables) (r : KernelRow) : Type 0 where
  pub of_objects : (i n : ℕ) → slice_get r.objects i ≡ Some n → (x : Place) × (slice_get objects n ≡ Some x)
  pub of_tables : (i n : ℕ) → slice_get r.tables i ≡ Some n → (x : OpenTables) × (slice_get tables n ≡ Some x)

-- each row is one of these parts
abbrev pub AreRows : List Place → List OpenTables → List KernelRow → Type 0
AreRows objects tables rows = (i : ℕ) (r : KernelRow) → slice_get rows i ≡ Some r → IsRow objects tables r

-- the row that stands at a place among the numbers of all rows
abbrev pub row_of : List ℕ → Span → KernelRow
row_of numbers s = record { objects = take s.objects (drop s.start numbers); tables = take s.tables (drop (s.start + s.objects) numbers) }

-- each row ends among these numbers
abbrev pub AreWithin : List ℕ → List Span → Type 0
AreWithin numbers spans = (i : ℕ) (s : Span) → slice_get spans i ≡ Some s → s.start + s.objects + s.tables ≤ length numbers
