use Rattle.std.proofs.Common.{take}
use Rattle.lab_search.specs.Stored.{IsExactly}
use Rattle.lab_explore.specs.Private.Judged.{IsFirst}
use Rattle.lab_explore.proofs.judging.first_of.Given as goal

abbrev pub invariant-loop-at : goal.invariant-loop-at
invariant-loop-at l = record {
  last : IsExactly l.store l.last.number l.last.kernel;
  first : IsFirst l.store l.condition l.end (take l.at-index l.rows) l.first;
}
