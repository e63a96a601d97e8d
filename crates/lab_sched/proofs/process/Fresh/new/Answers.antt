use Rattle.std.proofs.Common.{rules}
use Rattle.lab_sched.proofs.WorldLemmas.{fresh_is}
use Rattle.lab_sched.proofs.process.Fresh.new.Goals as goal

pub invariant_of-result : goal.invariant_of-result
invariant_of-result c = fresh_is c.args.profile c.in_ok-processes.processes.items c.args.programs.now c.in_ok-kernel.kernel c.in_ok-processes.ensures.starts c.in_ok-processes.ensures.running c.in_ok-kernel.ensures.empty (search rules) (search rules)
