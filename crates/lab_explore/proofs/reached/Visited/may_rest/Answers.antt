use Rattle.std.proofs.lemmas.Bool.{not-false}
use Rattle.lab_search.proofs.StepsOfRows.{edge_goes_on}
use Rattle.lab_explore.proofs.reached.Visited.may_rest.Goals as goal

pub returns : goal.returns
returns c = record { no = λ is w here none. edge_goes_on c.args.self.now.store w c.args.at c.requires.store (c.lead_from.ensures.yes (not-false c.lead_from.result is)) here none }
