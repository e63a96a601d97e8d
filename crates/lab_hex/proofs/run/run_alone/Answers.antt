use Rattle.std.proofs.Common.{refl, ap, ◌∙◌}
use Rattle.lc3_table.specs.declared.profile.Profile.TheVariants.{A}
use Rattle.lab_sched.specs.Starts.{fresh}
use Rattle.lab_hex.proofs.RunLemmas.{ran_alone}
use Rattle.lab_hex.proofs.run.run_alone.Goals as goal

pub returns-in-Ok-run-clause-world : goal.returns-in-Ok-run-clause-world
returns-in-Ok-run-clause-world c =
    ran_alone 100000 c.args.image (record { image = c.args.image; input = c.new.result }) c.in-Ok.fresh c.from-world.result c.run.new.self
    c.new-schedule.result c.push.new.self refl c.new.ensures.items (c.in-Ok.ensures.start ∙ ap (fresh A) c.as_slice.ensures)
    c.from-world.ensures c.new-schedule.ensures.empty c.in_ok-push.ensures.steps c.in-Ok-run.ensures.world
