use Rattle.lab_ways.proofs.WatchedWalks.{watched_on}
use Rattle.lab_ways.proofs.walking.WatchedWalk.go.Goals as goal

pub returns : goal.returns
returns c = record {
  watched = watched_on c.args.wanted.now c.args.self.now _ c.args.pid c.in_ok-state.ensures.state c.in_ok-go.ensures.walk c.in_ok-go.ensures.steps;
  steps = c.in_ok-go.ensures.steps;
}
