use Rattle.std.proofs.Common.{arith, rules}
use Rattle.ipc_kernel.proofs.AnswerLemmas.{first_short}
use Rattle.ipc_kernel.proofs.kernel.Kernel.decide_mq_receive.Goals as goal

pub returns-then-count-eq0-clause-possible : goal.returns-then-count-eq0-clause-possible
returns-then-count-eq0-clause-possible c = c.wait_or_again.ensures.possible c.args.self.now

pub returns-clause-size : goal.returns-clause-size
returns-clause-size c =
    first_short c.args.self.now c.args.pid c.in-Some.descriptor.place c.args.len c.in-Some.queue.now c.in-Some.ensures.there c.attr-size.ensures.ranges (omega (arith, c.attr-size.ensures.size))

pub returns-clause-limit : goal.returns-clause-limit
returns-clause-limit c = search (rules, first_short, c.in-Some.descriptor.place, c.in-Some.ensures.there, c.attr-size.ensures.ranges, c.attr-size.ensures.ranges.size_at_most)
