use Rattle.std.proofs.Common.{All, arith, subst, sym, ◌∙◌}
use Rattle.lab_sched.specs.Held.{IsHeld}
use Rattle.lab_pictures.proofs.WorldCopies.{copied_more, copied_world}
use Rattle.std.proofs.lemmas.List.Elements.{All-push}
use Rattle.lab_pictures.proofs.copies.copy_of.Goals as goal

pub loop-pid-preserved : goal.loop-pid-preserved
loop-pid-preserved c = record {
  same = copied_more c.args.world.now.processes c.loop-pid.pid c.loop-pid.processes.items c.push.new.self.items c.in_ok-process.process c.loop-pid.invariant.same c.in_ok-process.ensures.copy c.in_ok-push.ensures.items;
  held = subst (All IsHeld) (sym c.in_ok-push.ensures.items) (All-push IsHeld c.loop-pid.processes.items c.in_ok-process.process c.loop-pid.invariant.held c.in_ok-process.ensures.held);
}

pub join-requires : goal.join-requires
join-requires c =
    let w = c.args.world.now in
    let past = c.loop-pid-test.false in
    let end = c.count-pid-end.ensures.count in
    let some = c.count-pid-end.ensures.some in
    let few = c.count-pid-end.ensures.few in
    record {
      world = copied_world c.loop-pid.processes.items c.in_ok-kernel.kernel w c.loop-pid.pid c.profile-profile.result c.loop-pid.invariant.held c.loop-pid.invariant.same (omega (arith, past, end)) c.profile-profile.ensures.all
          c.profile-profile.ensures.profile (omega (arith, end, some)) (omega (arith, end, few)) c.kernel.ensures.count (c.in_ok-kernel.ensures.equal ∙ c.kernel.ensures.kernel);
    }
