use Rattle.std.proofs.Common.{rules}
use Rattle.lab_states.proofs.graph.are_near.Goals as goal

pub returns : goal.returns
returns c = record { yes = λ is k d below. search (rules, c.all.ensures.yes is k d below) }
