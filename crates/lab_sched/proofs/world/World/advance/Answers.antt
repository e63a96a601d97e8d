use Rattle.std.proofs.Common.{arith}
use Rattle.lab_sched.proofs.WorldLemmas.{at_index, ran_led, ran_world, same_world, world_kept}
use Rattle.lab_sched.proofs.world.World.advance.Goals as goal

pub invariant_of-self : goal.invariant_of-self
invariant_of-self c =
    let at = at_index c.self.inside.processes.items c.self.inside.kernel c.args.self.now c.args.pid c.index_mut-process.result.now c.self.view_is (omega (arith, c.self.inside.processes.ok.0)) c.index_mut-process.ensures.value in
    let led = ran_led at c.advance.new.kernel c.advance.new.process c.advance.result c.advance.ensures.advances in
    world_kept at c.self.invariant c.advance.new.kernel c.advance.new.process led.0 c.advance.ensures.advances.held c.advance.ensures.advances.count led.1

pub invariant_of-self-2 : goal.invariant_of-self-2
invariant_of-self-2 c =
    let at = at_index c.self.inside.processes.items c.self.inside.kernel c.args.self.now c.args.pid c.index_mut-process.result.now c.self.view_is (omega (arith, c.self.inside.processes.ok.0)) c.index_mut-process.ensures.value in
    let led = ran_led at c.advance.new.kernel c.advance.new.process c.advance.result c.advance.ensures.advances in
    world_kept at c.self.invariant c.advance.new.kernel c.advance.new.process led.0 c.advance.ensures.advances.held c.advance.ensures.advances.count led.1

pub returns-clause-world : goal.returns-clause-world
returns-clause-world c =
    let at = at_index c.self.inside.processes.items c.self.inside.kernel c.args.self.now c.args.pid c.index_mut-process.result.now c.self.view_is (omega (arith, c.self.inside.processes.ok.0)) c.index_mut-process.ensures.value in
    ran_world at c.advance.new.kernel c.advance.new.process c.in-Ok.taken c.in-Ok.ensures.advances.ok

pub returns-in_default-clause-err : goal.returns-in_default-clause-err
returns-in_default-clause-err c =
    let at = at_index c.self.inside.processes.items c.self.inside.kernel c.args.self.now c.args.pid c.index_mut-process.result.now c.self.view_is (omega (arith, c.self.inside.processes.ok.0)) c.index_mut-process.ensures.value in
    same_world at c.advance.new.kernel c.advance.new.process c.in_default.ensures.advances.err c.in_default.ensures.advances.kernel
