use Rattle.std.proofs.Common.{refl}
use Rattle.lab_explore.specs.Visits.{start_of}
use Rattle.lab_ways.proofs.WatchedWalks.{watched_start}
use Rattle.lab_ways.proofs.walking.WatchedWalk.start.Goals as goal

pub returns : goal.returns
returns c = record { walk = λ x. watched_start x (start_of c.args.visited.now) _ c.in_ok-walk.ensures.walk (c.has_calls.ensures.yes c.if-not-has_calls.false) refl }
