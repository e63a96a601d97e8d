use Rattle.lab_worlds.proofs.FairLassos.{taken_segment_so_far}
use Rattle.lab_worlds.proofs.closed_walks.FairSegment.take.Goals as goal

pub returns : goal.returns
returns c = record {
  segments = λ start h.
      taken_segment_so_far start c.args.self.now _ c.args.pid h (c.in_ok-go.ensures.walk start h.walk) c.in_ok-go.ensures.steps c.in_ok-mark.ensures.within c.in_ok-mark.ensures.fair_to;
}
