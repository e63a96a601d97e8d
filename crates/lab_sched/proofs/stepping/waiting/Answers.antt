use Rattle.lab_sched.proofs.stepping.waiting.Goals as goal

pub wait-requires : goal.wait-requires
wait-requires c = record { trap = rw c.in-Running.is at c.requires.stands }
