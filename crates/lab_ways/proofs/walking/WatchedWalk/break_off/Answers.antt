use Rattle.std.proofs.Common.{◌∙◌, sym}
use Rattle.lab_ways.proofs.WatchedWalks.{broken}
use Rattle.lab_ways.proofs.walking.WatchedWalk.break_off.Goals as goal

pub returns : goal.returns
returns c = record {
  against = broken c.args.wanted.now c.args.self.now _ c.args.pid (sym c.allows.ensures.value ∙ c.if-not-allows.false) (sym c.allows-2.ensures.value ∙ c.if-allows.false) c.in_ok-go.ensures.watched c.in_ok-go.ensures.steps;
}
