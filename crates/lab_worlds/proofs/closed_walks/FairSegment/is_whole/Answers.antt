use Rattle.std.proofs.Common.{rules}
use Rattle.lab_worlds.proofs.FairLassos.{whole_segment}
use Rattle.lab_worlds.proofs.closed_walks.FairSegment.is_whole.Goals as goal

pub returns-then-total-gt0 : goal.returns-then-total-gt0
returns-then-total-gt0 c = search (rules, whole_segment, c.total.ensures.steps, c.if-total-gt0.true, c.args.self.now, c.as_slice.ensures.value, c.is_fair_to_all.ensures.yes)
