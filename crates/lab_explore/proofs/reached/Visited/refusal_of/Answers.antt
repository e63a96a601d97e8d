use Rattle.std.proofs.Common.{◌≡◌, IsTrue, None}
use Rattle.std.proofs.lemmas.Result.{IfOk-weaker}
use Rattle.lab_explore.specs.declared.refusals.Found.TheVariants.{Calm}
use Rattle.lab_explore.proofs.CalmRows.{calm_there}
use Rattle.lab_explore.proofs.reached.Visited.refusal_of.Goals as goal

pub returns : goal.returns
returns c = record {
  calm = IfOk-weaker c.turn_of.result (λ turn. turn ≡ None → IsTrue c.args.self.now.complete → c.in_ok-found.found ≡ Calm) _
      (λ turn calm none whole.
      calm_there c.args.refusal.now c.args.self.now.store c.args.at c.args.pid c.in_ok-alone.alone c.in_ok-alone.ensures.pid c.in_ok-alone.ensures.there
      (c.in_ok-found.ensures.calm (calm none whole)))
      c.turn_of.ensures.calm;
}
