use Rattle.std.proofs.Common.{rules}
use Rattle.lab_worlds.proofs.FewestCalls.{next_waits, next_other}
use Rattle.lab_worlds.proofs.walking.waiting_at.Goals as goal

pub returns-then-waits-clause-next : goal.returns-then-waits-clause-next
returns-then-waits-clause-next c = search (rules, next_waits, c.args.world.now.processes, c.args.pid, c.in-Some.process.now, c.in-Some.ensures.process, c.waits.ensures.value, c.if-waits.true)

pub returns-else-waits-clause-next : goal.returns-else-waits-clause-next
returns-else-waits-clause-next c = search (rules, next_other, c.args.world.now.processes, c.args.pid, c.in-Some.process.now, c.in-Some.ensures.process, c.waits.ensures.value, c.if-waits.false)
