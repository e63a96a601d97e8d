use Rattle.lab_sched.proofs.ReportAdditions.{next_in, next_led}
use Rattle.std.proofs.Common.{refl, rules}
use Rattle.lab_sched.proofs.WorldLemmas.{at_place, world_kept}
use Rattle.lab_sched.proofs.world.World.find_next.Goals as goal

pub invariant_of-self : goal.invariant_of-self
invariant_of-self c =
    let at = at_place c.self.inside.processes.items c.self.inside.kernel c.args.self.now c.args.pid c.index_mut-process.result.now c.self.view_is c.requires.process c.index_mut-process.ensures.value in
    let led = next_led c.args.self.now _ c.args.pid c.args.most c.find_next.result (next_in at c.args.most c.find_next.result c.find_next.new.process c.find_next.ensures.next) in
    world_kept at c.self.invariant c.self.inside.kernel c.find_next.new.process led.0 c.find_next.ensures.held refl led.1

pub returns : goal.returns
returns c = search (rules, at_place, next_in)
