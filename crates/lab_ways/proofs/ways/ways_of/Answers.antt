use Rattle.lab_explore.specs.Visits.{start_of}
use Rattle.lab_explore.proofs.MetWorlds.{is_start}
use Rattle.lab_ways.proofs.MarkedRows.{every_way}
use Rattle.lab_ways.proofs.ways.ways_of.Goals as goal

pub returns-then-branch : goal.returns-then-branch
returns-then-branch c =
    let visited = c.args.visited.now in
    let told = c.in_ok-are_shown.ensures in
    record {
      found = every_way c.args.wanted.now (start_of visited) visited.store c.in_ok-marks.marks (is_start visited.processes.items c.requires.whole.visited.starts)
          (c.requires.whole.searched (told.complete c.if-branch.true)) (told.shown c.if-branch.true);
    }
