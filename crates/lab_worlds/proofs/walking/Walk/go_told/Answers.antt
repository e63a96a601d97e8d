use Rattle.std.proofs.Common.{arith, slice_get}
use Rattle.lab_sched.specs.Held.{asked_by}
use Rattle.lab_sched.specs.Worlds.{step_effect_in}
use Rattle.lab_worlds.proofs.WalkLemmas.{walk_more}
use Rattle.lab_worlds.proofs.walking.Walk.go_told.Goals as goal

pub returns : goal.returns
returns c = record {
  walk = λ start h.
      let told = c.in-Ok.ensures.told in
      let one = c.calls_of.ensures.count c.args.pid (asked_by (slice_get c.args.self.now.world.processes c.args.pid)) (step_effect_in c.args.self.now.world c.args.pid) told in
      let sum = c.in-Some.ensures in
      walk_more start c.args.self.now _ c.args.pid c.in-Ok.stepped h c.in-Ok.ensures.world told c.in_default-stepped.not-Same c.in_ok-push.ensures.steps
      (omega (arith, sum, one));
  world = c.in-Ok.ensures.world;
  steps = c.in_ok-push.ensures.steps;
  told = c.in-Ok.ensures.told;
}
