use Rattle.std.proofs.Common.{IfOk, subst, sym}
use Rattle.lab_sched.specs.Starts.{AreStarts, initial_world}
use Rattle.lab_worlds.specs.Walked.{IsWalk}
use Rattle.lab_explore.proofs.reached.Visited.stay.Goals as goal

pub start-requires : goal.start-requires
start-requires c = record { starts = subst AreStarts (sym c.as_slice.ensures.value) c.requires.visited.starts }

pub returns : goal.returns
returns c = record { walk = subst (λ ps. IfOk c.start.result (λ w. IsWalk (initial_world ps) w)) c.as_slice.ensures.value c.start.ensures.walk }
