-- The comparison of tables of processes decides whether they are equal.
use Rattle.std.proofs.Common.{◌≡◌, ℕ, Bool, Decides, List, Option, rules}
use Rattle.std.specs.Cmp.Lexicographic.{pointwise}
use Rattle.std.proofs.lemmas.Bool.Decides.{Decides-and, Decides-like}
use Rattle.std.proofs.lemmas.Slice.Eq.{slice_eq-Decides}
use Rattle.ipc_kernel.specs.declared.process.OpenTables.{OpenTables}
use Rattle.ipc_kernel.specs.declared.process.Slot.{Slot}
use Rattle.ipc_kernel.specs.declared.process.Descriptor.{Descriptor}
use Rattle.ipc_kernel.specs.contracts.process.OpenTablesPartialEq.TheImpl as process_eq

abbrev descriptor : ℕ → ℕ → Bool → Descriptor
descriptor place access nonblock = record { place = place; access = access; nonblock = nonblock }

abbrev slot : ℕ → ℕ → Slot
slot place opens = record { place = place; opens = opens }

abbrev process : List (Option Descriptor) → List (Option Slot) → OpenTables
process descriptors slots = record { descriptors = descriptors; slots = slots }

process_decides : (a b : OpenTables) → Decides (process_eq.eq-value.it a b) (a ≡ b)
process_decides a b = search (rules, Decides-like, Decides-and, slice_eq-Decides)

-- two lists of tables are compared
pub tables_decides : (ps qs : List OpenTables) (r : Bool) → r ≡ pointwise process_eq.eq-value.it ps qs → Decides r (ps ≡ qs)
tables_decides ps qs r is = slice_eq-Decides process_decides ps qs r is

-- two tables are compared
pub process_read : (a b : OpenTables) (r : Bool) → r ≡ process_eq.eq-value.it a b → Decides r (a ≡ b)
process_read a b r is = rw is (process_decides a b)
