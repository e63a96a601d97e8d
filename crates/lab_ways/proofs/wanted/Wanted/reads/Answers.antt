use Rattle.std.proofs.Common.{sym, ◌∙◌}
use Rattle.lab_ways.proofs.NextStates.{other_process, unread_call}
use Rattle.lab_ways.proofs.wanted.Wanted.reads.Goals as goal

pub returns-then-not-is_process : goal.returns-then-not-is_process
returns-then-not-is_process c = record {
  no = λ none s k a. other_process c.args.self.now s k c.args.pid c.args.call.now a (sym c.is_process.ensures.value ∙ c.if-not-is_process.true);
}

pub returns : goal.returns
returns c = record { no = λ none s k a. unread_call c.args.self.now s k c.args.pid c.args.call.now a (c.reads.ensures.no none s k c.args.pid) }
