use Rattle.std.proofs.Common.{sym, ◌∙◌}
use Rattle.lab_states.proofs.EdgeLists.{edges_count}
use Rattle.lab_states.proofs.edges.Edges.len.Goals as goal

pub returns : goal.returns
returns c = record {
  count = rw (← c.self.view_is) (c.len.ensures ∙ c.self.inside.tos.ok.0 ∙ sym (edges_count c.self.inside.ends.items 0 c.self.inside.tos.items c.self.inside.pids.items c.self.invariant.count));
}
