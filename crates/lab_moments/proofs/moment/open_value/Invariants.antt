use Rattle.std.proofs.Common.{◌≡◌, ◌++◌, map}
use Rattle.serde_json.specs.View.{view}
use Rattle.ipc_kernel.specs.Limits.{open_max}
use Rattle.lab_moments.specs.Values.{all_below}
use Rattle.lab_moments.specs.Objects.{descriptor_at, slot_at}
use Rattle.lab_moments.proofs.moment.open_value.Given as goal

-- the descriptors so far
abbrev pub invariant-descriptors : goal.invariant-descriptors
invariant-descriptors l = map view l.values.items ≡ all_below l.number (descriptor_at l.world l.pid)

-- the descriptors, and the slots so far
abbrev pub invariant-slots : goal.invariant-slots
invariant-slots l = map view l.values.items ≡ all_below open_max (descriptor_at l.world l.pid) ++ all_below l.number (slot_at l.world l.pid)
