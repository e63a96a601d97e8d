use Rattle.std.proofs.Common.{◌≡◌, ℕ, length, map}
use Rattle.serde_json.specs.View.{view}
use Rattle.ipc_kernel.specs.Places.{place_at}
use Rattle.lab_told.specs.Tallies.{new_tally}
use Rattle.lab_moments.specs.Values.{all_below}
use Rattle.lab_page.specs.Worlds.{object_in}
use Rattle.lab_page.proofs.worlds.objects_value.Given as goal

-- the objects so far are added
abbrev pub invariant-loop-place : goal.invariant-loop-place
invariant-loop-place l =
    map view l.objects.items
    ≡ all_below l.place (λ (place : ℕ). object_in l.world (new_tally (length l.world.processes)) place (place_at l.world.kernel.places place))
