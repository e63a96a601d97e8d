use Rattle.std.proofs.Common.{subst, arith}
use Rattle.lab_explore.specs.Visits.{start_of}
use Rattle.lab_explore.proofs.MetWorlds.{is_start}
use Rattle.lab_pictures.specs.Private.Drawn.{AreNodesOfRows}
use Rattle.lab_pictures.proofs.DrawnRows.{drawn}
use Rattle.lab_pictures.proofs.picture.picture_of.Goals as goal

pub returns : goal.returns
returns g c =
    let visited = c.args.visited.now in
    let start = start_of visited in
    let nodes = c.in_ok-nodes.nodes in
    let complete = c.if-not-visited.false in
    record {
      picture = drawn start visited.store c.in_ok-depths.depths.items (record { firsts = c.in_ok-firsts.firsts; nodes = nodes; arrows = c.in_ok-arrows.arrows }) (is_start visited.processes.items c.requires.whole.visited.starts).consistent
          (c.requires.whole.visited.store complete) (subst (λ xs. AreNodesOfRows start visited.store xs nodes.items) c.as_slice-2.ensures.value c.in_ok-nodes.ensures.nodes) c.in_ok-arrows.ensures.arrows
          c.in_ok-depths.ensures.depths (c.requires.whole.searched complete) (omega arith);
    }
