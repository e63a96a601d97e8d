use Rattle.std.proofs.Common.{rules}
use Rattle.lab_worlds.proofs.FairLassos.{none_segment_so_far}
use Rattle.lab_worlds.proofs.closed_walks.FairSegment.at.Goals as goal

pub returns : goal.returns
returns c = search (rules, none_segment_so_far, c.args.world, c.at.result, c.in_ok-vec.field-0, c.count.result, c.at.ensures.walk, c.in_ok-vec.ensures.items_if_clones_equal, c.count.ensures.count)
