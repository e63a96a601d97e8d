use Rattle.std.proofs.Common.{arith}
use Rattle.lab_ways.proofs.ways.are_shown.Goals as goal

pub returns : goal.returns
returns c = record {
  complete = λ is. c.if-not-visited.false;
  shown = λ is. record {
    some = omega (arith, c.if-marks-eq0.false);
    first = c.is_marked.ensures.yes c.if-not-is_marked.false;
    edges = c.in_ok-kept.ensures.yes is;
    rows = c.in_ok-are_right.ensures.yes c.if-not-branch.false;
  };
}
