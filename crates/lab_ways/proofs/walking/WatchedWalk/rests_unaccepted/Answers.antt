use Rattle.std.proofs.Common.{sym, ◌∙◌}
use Rattle.std.proofs.lemmas.Bool.{not-true}
use Rattle.lab_ways.proofs.WatchedWalks.{rested}
use Rattle.lab_ways.proofs.walking.WatchedWalk.rests_unaccepted.Goals as goal

pub returns : goal.returns
returns c = record {
  against = λ is.
      rested c.args.wanted.now c.args.self.now c.verdict.result c.verdict.ensures.verdict c.in_default.not-Open (sym c.accepts.ensures.value ∙ not-true c.accepts.result is);
}
