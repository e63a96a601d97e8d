use Rattle.std.proofs.Common.{rules}
use Rattle.lab_sched.proofs.ReportAdditions.{settled_none, settled-append, added_length}
use Rattle.lab_sched.proofs.world.World.settle.Goals as goal

pub loop-self-init : goal.loop-self-init
loop-self-init c = record { settled = settled_none _ _; len = c.requires.len; room = c.requires.room }

pub bits_of_left-requires : goal.bits_of_left-requires
bits_of_left-requires c = search (rules, added_length)

pub returns-then-total-before-clause-settled : goal.returns-then-total-before-clause-settled
returns-then-total-before-clause-settled c = settled-append c.loop-self.invariant.settled c.settle_round.ensures.settled

pub loop-self-preserved : goal.loop-self-preserved
loop-self-preserved c = search (rules, settled-append, added_length)
