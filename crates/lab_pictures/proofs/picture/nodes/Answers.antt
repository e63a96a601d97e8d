use Rattle.std.proofs.Common.{All, arith, subst, sym}
use Rattle.lab_explore.specs.Visits.{start_of}
use Rattle.lab_pictures.specs.Pictures.{IsNode}
use Rattle.lab_pictures.proofs.DrawnRows.{nodes_more, are_nodes}
use Rattle.lab_pictures.proofs.picture.nodes.Goals as goal

pub node_at-requires-clause-nodes : goal.node_at-requires-clause-nodes
node_at-requires-clause-nodes g c =
    let start = start_of c.args.visited.now in
    subst (All (IsNode start)) (sym c.as_slice.ensures.value) (are_nodes start c.args.visited.now.store c.args.depths.now c.loop-at.nodes.items c.loop-at.invariant.each)

pub loop-at-preserved : goal.loop-at-preserved
loop-at-preserved g c =
    let more = nodes_more (start_of c.args.visited.now) c.args.visited.now.store c.args.depths.now c.loop-at.at c.depth_of-depth.result c.loop-at.nodes.items c.push.new.self.items c.in_ok-node.node
    c.loop-at.invariant.count c.loop-at.invariant.each c.in_ok-node.ensures.node c.depth_of-depth.ensures.depth c.in_ok-push.ensures.items in
    let below = c.loop-at-test.true in
    let end = c.len-at-end.ensures in
    record { count = more.0; within = omega (arith, below, end); each = more.1 }

pub returns : goal.returns
returns g c =
    let count = c.loop-at.invariant.count in
    let within = c.loop-at.invariant.within in
    let past = c.loop-at-test.false in
    let end = c.len-at-end.ensures in
    record { nodes = record { count = omega (arith, count, within, past, end); each = c.loop-at.invariant.each } }
