-- The comparison of places decides whether they are equal.
use Rattle.std.proofs.Common.{◌≡◌, Bool, Decides, List, rules}
use Rattle.std.specs.Cmp.Lexicographic.{pointwise}
use Rattle.std.proofs.lemmas.Bool.Decides.{Decides-eqb}
use Rattle.std.proofs.lemmas.Slice.Eq.{slice_eq-Decides}
use Rattle.ipc_objects.proofs.QueueCopies.{queue_decides}
use Rattle.ipc_kernel.specs.declared.place.Place.{Place}
use Rattle.ipc_kernel.specs.contracts.place.PlacePartialEq.TheImpl as place_eq

place_decides : (a b : Place) → Decides (place_eq.eq-value.it a b) (a ≡ b)
place_decides x y = search (rules, slice_eq-Decides, Decides-eqb, queue_decides)

-- two lists of places are compared
pub places_decides : (ps qs : List Place) (r : Bool) → r ≡ pointwise place_eq.eq-value.it ps qs → Decides r (ps ≡ qs)
places_decides ps qs r is = slice_eq-Decides place_decides ps qs r is

-- two places are compared
pub place_read : (a b : Place) (r : Bool) → r ≡ place_eq.eq-value.it a b → Decides r (a ≡ b)
place_read a b r is = rw is (place_decides a b)
