use Rattle.lab_moments.specs.Waits.{other_at}
use Rattle.lab_moments.proofs.ValueLemmas.{AreBelow}
use Rattle.lab_moments.proofs.waits.others.Given as goal

-- the processes so far are looked at
abbrev pub invariant-loop-other : goal.invariant-loop-other
invariant-loop-other l = AreBelow l.others.items l.other (other_at l.world.kernel l.pid l.place l.service)
