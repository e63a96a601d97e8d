use Rattle.std.proofs.Common.{IsTrue, take}
use Rattle.lab_worlds.specs.Reached.{AreReached, AreKept}
use Rattle.lab_explore.specs.Visits.{start_of}
use Rattle.lab_explore.proofs.reached.Visited.reached.Given as goal

abbrev pub invariant-loop-never : goal.invariant-loop-never
invariant-loop-never g l = record {
  reached : AreReached (start_of l.self) (take l.never-index l.nevers) l.found.items;
  none : IsTrue l.self.complete → AreKept (start_of l.self) (take l.never-index l.nevers) l.found.items;
}
