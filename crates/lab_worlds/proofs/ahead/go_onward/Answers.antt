use Rattle.std.proofs.Common.{arith}
use Rattle.lab_sched.specs.Held.{process_view}
use Rattle.lab_worlds.proofs.ErrorLemmas.{own_among}
use Rattle.lab_worlds.proofs.ahead.go_onward.Goals as goal

pub returns-then-taken-gt0-clause-onward : goal.returns-then-taken-gt0-clause-onward
returns-then-taken-gt0-clause-onward c =
    let some = c.if-taken-gt0.true in
    let steps = c.local_steps-taken.ensures in
    (omega (arith, some), steps.within, steps.local, own_among c.local_steps-taken.result.0 (process_view c.args.process.now) (process_view c.local_steps-taken.new.process) steps.local steps.own)
