use Rattle.std.proofs.Common.{ℕ, ◌<◌, IsTrue}
use Rattle.lab_states.specs.Depths.{depth_of}
use Rattle.lab_explore.specs.Private.RowEnds.{HasRowEnd}
use Rattle.lab_explore.specs.Visits.{start_of}
use Rattle.lab_worlds.specs.Ends.{AreEnds}
use Rattle.lab_explore.proofs.reached.Visited.collect.Given as goal

abbrev pub invariant-loop-at : goal.invariant-loop-at
invariant-loop-at l = record {
  ends : AreEnds (start_of l.self) l.ends.items;
  all : IsTrue l.self.complete → (i : ℕ) → i < l.at → HasRowEnd l.self.store l.ends.items i (depth_of l.depths.items i);
}
