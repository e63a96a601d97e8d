use Rattle.lab_worlds.proofs.FairLassos.{paused_segment_so_far}
use Rattle.lab_worlds.proofs.closed_walks.FairSegment.go_walk_part.Goals as goal

pub returns-in_ok-mark-in-Rest : goal.returns-in_ok-mark-in-Rest
returns-in_ok-mark-in-Rest c = record {
  segments = λ start h.
      paused_segment_so_far start c.args.self.now _ c.in-Rest.pid h c.in_ok-pause-in-Rest.ensures.world c.in_ok-pause-in-Rest.ensures.schedule c.in_ok-pause-in-Rest.ensures.calls c.in_ok-pause-in-Rest.ensures.none c.in_ok-mark-in-Rest.ensures.within c.in_ok-mark-in-Rest.ensures.fair_to;
}
