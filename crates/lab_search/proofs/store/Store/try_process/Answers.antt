use Rattle.std.proofs.Common.{◌<◌, arith, subst, sym}
use Rattle.lab_search.specs.Stored.{IsNextAt}
use Rattle.lab_search.proofs.Growths.{grows_more, later_more, at_grows}
use Rattle.lab_search.proofs.StepsOfRows.{next_to, stays}
use Rattle.lab_search.proofs.store.Store.try_process.Goals as goal
use Rattle.lab_search.proofs.store.Store.try_process.Goals.{else-onward-via-then-onward+else-to-at, else-onward-via-else-onward}

pub keep_after-requires-clause-step : goal.keep_after-requires-clause-step
keep_after-requires-clause-step c = next_to c.next.new.self c.args.at c.args.pid c.in-To.kernel c.in-To.state _ _ c.in_ok-next.next c.in-To.is c.in_ok-next.ensures.next

pub add_edge-requires-clause-leads : goal.add_edge-requires-clause-leads
add_edge-requires-clause-leads c = rw c.in-Some.is at c.in_ok-to.ensures.row

pub returns-clause-later : goal.returns-clause-later
returns-clause-later c =
    later_more c.args.self.now c.keep_after.new.self c.add_edge.new.self (later_more c.args.self.now c.next.new.self c.keep_after.new.self c.in_ok-next.ensures.later c.in_ok-to.ensures.later)
    c.in_ok-kept.ensures.later

pub returns-clause-expanded_in : goal.returns-clause-expanded_in
returns-clause-expanded_in c is w here effective =
    let g = grows_more c.args.self.now c.next.new.self c.keep_after.new.self c.in_ok-next.ensures.later.grows c.in_ok-to.ensures.later.grows in
    (c.in_ok-kept.ensures.edge is w (at_grows c.args.self.now c.keep_after.new.self c.args.at w g here)).0

pub returns-clause-onward : goal.returns-clause-onward
returns-clause-onward c is onward w here =
    let g = grows_more c.args.self.now c.next.new.self c.keep_after.new.self c.in_ok-next.ensures.later.grows c.in_ok-to.ensures.later.grows in
    let x = c.in_ok-kept.ensures.edge is w (at_grows c.args.self.now c.keep_after.new.self c.args.at w g here) in
    let later : c.args.at < c.in-Some.to = elim c.else-onward.branch [
      | else-onward-via-then-onward+else-to-at w ↦ let less = w.if-to-at.false in omega (arith, less)
      | else-onward-via-else-onward w ↦ let not_onward = w.if-onward.false in absurd (cc)
    ] in
    (x.0, subst (λ n. c.args.at < n) (sym x.1) later)

pub returns-then-to-at-clause-later : goal.returns-then-to-at-clause-later
returns-then-to-at-clause-later c = later_more c.args.self.now c.next.new.self c.keep_after.new.self c.in_ok-next.ensures.later c.in_ok-to.ensures.later

pub returns-then-not-onward-clause-expanded_in : goal.returns-then-not-onward-clause-expanded_in
returns-then-not-onward-clause-expanded_in c is w here effective =
    let still = subst (IsNextAt c.next.new.self c.args.at c.args.pid) (c.is_nothing.ensures.yes is) c.in_ok-next.ensures.next in
    absurd (stays c.next.new.self w c.args.at c.args.pid (at_grows c.args.self.now c.next.new.self c.args.at w c.in_ok-next.ensures.later.grows here) still effective)
