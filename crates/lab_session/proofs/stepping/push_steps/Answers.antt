use Rattle.lab_session.proofs.BlockLemmas.{push-block}
use Rattle.lab_session.proofs.stepping.push_steps.Goals as goal

pub returns-in_ok-push : goal.returns-in_ok-push
returns-in_ok-push c = record { steps = push-block c.args.blocks.now.items _ (record { pid = c.args.pid; count = c.args.count }) c.in_ok-push.ensures.items }
