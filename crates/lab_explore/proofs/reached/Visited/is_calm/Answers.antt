use Rattle.std.proofs.lemmas.Bool.{not-true}
use Rattle.lab_explore.proofs.CalmRows.{calm_known}
use Rattle.lab_explore.proofs.reached.Visited.is_calm.Goals as goal

pub returns-in-Some : goal.returns-in-Some
returns-in-Some c = record {
  calm = λ calm whole.
      let self = c.args.self.now in
      let steps = c.in-Some.steps in
      calm_known c.args.refusal.now self.store c.args.at c.args.pid steps.taken steps.errors (c.in-Some.ensures.steps (c.requires.visited.store whole).known) (c.may_be.ensures.no (not-true c.may_be.result calm));
}
