use Rattle.lab_page.proofs.RunLemmas.{outcome-plain}
use Rattle.lab_page.proofs.moments.Moments.finish.Goals as goal

pub push_run_end-requires : goal.push_run_end-requires
push_run_end-requires c = record { plain = rw (c.in_ok-outcome.ensures.value 0) (outcome-plain _ _ _) }
