use Rattle.std.proofs.Common.{refl}
use Rattle.lab_ways.proofs.WatchedWalks.{watched_local}
use Rattle.lab_ways.proofs.walking.WatchedWalk.go_on.Goals as goal

pub loop-preserved : goal.loop-preserved
loop-preserved c x start h = watched_local x c.loop.self _ c.args.pid c.if-self-before.false refl c.in_ok-go.ensures.walk c.in_ok-go.ensures.steps start (c.loop.invariant x start h)
