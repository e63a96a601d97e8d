use Rattle.std.proofs.Common.{rules}
use Rattle.lab_states.proofs.OnwardRows.{onward_rising}
use Rattle.lab_states.proofs.graph.is_order_by_number.Goals as goal

pub returns : goal.returns
returns c = record { yes = λ is. onward_rising c.args.count c.args.edges.now (λ k d below. search (rules, c.all.ensures.yes is k d below)) }
