use Rattle.lab_page.specs.Worlds.{standing_at}
use Rattle.lab_moments.proofs.ValueLemmas.{AreBelow}
use Rattle.lab_page.proofs.worlds.standings.Given as goal

-- the processes so far are added
abbrev pub invariant-loop-pid : goal.invariant-loop-pid
invariant-loop-pid l = AreBelow l.standings.items l.pid (standing_at l.world)
