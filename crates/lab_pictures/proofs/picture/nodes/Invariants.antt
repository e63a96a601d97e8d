use Rattle.std.proofs.Common.{ℕ, ◌≡◌, ◌≤◌, Some, length, slice_get}
use Rattle.lab_explore.specs.Visits.{start_of}
use Rattle.lab_pictures.specs.declared.picture.Node.{Node}
use Rattle.lab_states.specs.Depths.{depth_of}
use Rattle.lab_pictures.specs.Private.Drawn.{IsNodeOfRow}
use Rattle.lab_pictures.proofs.picture.nodes.Given as goal

abbrev pub invariant-loop-at : goal.invariant-loop-at
invariant-loop-at g l = record {
  count : length l.nodes.items ≡ l.at;
  within : l.at ≤ length l.visited.store.rows;
  each : (i : ℕ) (n : Node) → slice_get l.nodes.items i ≡ Some n → IsNodeOfRow (start_of l.visited) l.visited.store (depth_of l.depths i) i n;
}
