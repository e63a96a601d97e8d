use Rattle.std.proofs.Common.{arith}
use Rattle.lab_sched.proofs.WorldLemmas.{at_index, same_world, stepped_led, stepped_world, world_kept}
use Rattle.lab_sched.proofs.world.World.step.Goals as goal

pub invariant_of-self : goal.invariant_of-self
invariant_of-self c =
    let at = at_index c.self.inside.processes.items c.self.inside.kernel c.args.self.now c.args.pid c.index_mut-process.result.now c.self.view_is (omega (arith, c.self.inside.processes.ok.0)) c.index_mut-process.ensures.value in
    let led = stepped_led at c.take_step.new.kernel c.take_step.new.process c.take_step.result c.take_step.ensures.ok c.take_step.ensures.err c.take_step.ensures.kernel in
    world_kept at c.self.invariant c.take_step.new.kernel c.take_step.new.process led.0 c.take_step.ensures.held c.take_step.ensures.count led.1

pub invariant_of-self-2 : goal.invariant_of-self-2
invariant_of-self-2 c =
    let at = at_index c.self.inside.processes.items c.self.inside.kernel c.args.self.now c.args.pid c.index_mut-process.result.now c.self.view_is (omega (arith, c.self.inside.processes.ok.0)) c.index_mut-process.ensures.value in
    let led = stepped_led at c.take_step.new.kernel c.take_step.new.process c.take_step.result c.take_step.ensures.ok c.take_step.ensures.err c.take_step.ensures.kernel in
    world_kept at c.self.invariant c.take_step.new.kernel c.take_step.new.process led.0 c.take_step.ensures.held c.take_step.ensures.count led.1

pub returns-clause-world : goal.returns-clause-world
returns-clause-world c =
    let at = at_index c.self.inside.processes.items c.self.inside.kernel c.args.self.now c.args.pid c.index_mut-process.result.now c.self.view_is (omega (arith, c.self.inside.processes.ok.0)) c.index_mut-process.ensures.value in
    (stepped_world at c.take_step.new.kernel c.take_step.new.process c.in-Ok.stepped c.in-Ok.ensures.ok).0

pub returns-clause-told : goal.returns-clause-told
returns-clause-told c =
    let at = at_index c.self.inside.processes.items c.self.inside.kernel c.args.self.now c.args.pid c.index_mut-process.result.now c.self.view_is (omega (arith, c.self.inside.processes.ok.0)) c.index_mut-process.ensures.value in
    (stepped_world at c.take_step.new.kernel c.take_step.new.process c.in-Ok.stepped c.in-Ok.ensures.ok).1

pub returns-in_default-clause-err : goal.returns-in_default-clause-err
returns-in_default-clause-err c =
    let at = at_index c.self.inside.processes.items c.self.inside.kernel c.args.self.now c.args.pid c.index_mut-process.result.now c.self.view_is (omega (arith, c.self.inside.processes.ok.0)) c.index_mut-process.ensures.value in
    same_world at c.take_step.new.kernel c.take_step.new.process c.in_default.ensures.err c.in_default.ensures.kernel
