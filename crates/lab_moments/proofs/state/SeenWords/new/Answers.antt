use Rattle.lab_moments.specs.States.{shown_in}
use Rattle.lab_moments.proofs.WordLemmas.{seen-more}
use Rattle.lab_moments.proofs.state.SeenWords.new.Goals as goal

pub loop-pid-preserved : goal.loop-pid-preserved
loop-pid-preserved c = seen-more _ (shown_in c.args.world.now) c.loop-pid.pid _ _ c.in_ok-keep.ensures.kept c.loop-pid.invariant
