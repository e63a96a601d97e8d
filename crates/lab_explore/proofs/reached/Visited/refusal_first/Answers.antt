use Rattle.std.proofs.Common.{below_more, arith}
use Rattle.lab_explore.specs.Visits.{start_of}
use Rattle.lab_explore.specs.Private.Judged.{BeginsQuietly}
use Rattle.lab_explore.proofs.CalmRows.{begin_all}
use Rattle.lab_explore.proofs.reached.Visited.refusal_first.Goals as goal

pub loop-pid-preserved : goal.loop-pid-preserved
loop-pid-preserved c whole =
    below_more (BeginsQuietly c.args.refusal.now (start_of c.args.self.now)) c.loop-pid.pid (c.loop-pid.invariant whole) (c.in_ok-turn.ensures.quiet c.in_default.is whole)

pub returns : goal.returns
returns c = record { quiet = λ none whole. begin_all c.args.refusal.now c.args.self.now.processes.items (λ p below. c.loop-pid.invariant whole p (omega arith)) }
