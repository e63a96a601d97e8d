use Rattle.std.proofs.Common.{◌≡◌, All, Some, map, slice_get, sym, ap, subst, ◌∙◌, arith}
use Rattle.std.proofs.lemmas.List.{take_all}
use Rattle.std.proofs.lemmas.List.Elements.{All-push}
use Rattle.lab_sched.specs.Held.{IsHeld, process_view}
use Rattle.lab_session.proofs.CopyLemmas.{seen_next, seen_world}
use Rattle.lab_session.proofs.state.copy_of_world.Goals as goal

pub loop-pid-preserved : goal.loop-pid-preserved
loop-pid-preserved c =
    let copy = c.in_ok-copy.copy in
    let pushed = c.in_ok-push.ensures.items in
    let seen : slice_get c.args.world.now.processes c.loop-pid.pid ≡ Some (process_view copy) =
    sym c.in-Some.ensures.process ∙ ap Some (sym c.in_ok-copy.ensures.same) in
    let more = seen_next process_view c.loop-pid.copies.items c.args.world.now.processes c.loop-pid.pid copy c.loop-pid.invariant.0 seen in
    (ap (map process_view) pushed ∙ more, subst (All IsHeld) (sym pushed) (All-push IsHeld c.loop-pid.copies.items copy c.loop-pid.invariant.1 c.in_ok-copy.ensures.held))

pub join-requires : goal.join-requires
join-requires c =
    let w = c.args.world.now in
    let all : map process_view c.loop-pid.copies.items ≡ w.processes =
    c.loop-pid.invariant.0 ∙ take_all c.loop-pid.pid w.processes (omega (arith, c.loop-pid-test.false, c.count-count.ensures.count)) in
    record {
      world = seen_world w c.loop-pid.copies.items c.in_ok-kernel.kernel c.profile.result all c.loop-pid.invariant.1
          (c.in_ok-kernel.ensures.equal ∙ c.kernel.ensures.kernel) c.kernel.ensures.count
          (omega (arith, c.count-count.ensures.count, c.count-count.ensures.some)) (omega (arith, c.count-count.ensures.count, c.count-count.ensures.few))
          c.profile.ensures.profile c.profile.ensures.all;
    }
