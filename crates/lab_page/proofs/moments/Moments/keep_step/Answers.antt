use Rattle.serde_json.specs.View.{view}
use Rattle.lab_moments.proofs.PlainLemmas.{plain-back}
use Rattle.lab_moments.proofs.EventLemmas.{moment-plain}
use Rattle.lab_page.proofs.moments.Moments.keep_step.Goals as goal

pub push-requires : goal.push-requires
push-requires c = record {
  plain = plain-back view c.in_ok-moment.moment _ c.in_ok-moment.ensures.moment
      (moment-plain c.args.look.now.page c.args.look.now.whole c.args.taken.now.number c.args.taken.now.pid c.args.taken.now.told.now c.args.taken.now.world.now
      c.args.taken.now.tally.now c.self.inside.past);
}
