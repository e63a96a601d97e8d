use Rattle.std.proofs.Common.{All, below_more, arith, ap, subst, sym, ◌∙◌}
use Rattle.std.proofs.lemmas.List.Elements.{All-push}
use Rattle.lab_explore.specs.Visits.{start_of}
use Rattle.lab_sched.proofs.ListPlaces.{get_past}
use Rattle.lab_worlds.specs.Ends.{IsEnd}
use Rattle.lab_worlds.specs.Private.Kept.{Keeps}
use Rattle.lab_worlds.proofs.Pushes.{keeps_push}
use Rattle.lab_states.specs.Depths.{depth_of}
use Rattle.lab_explore.specs.Private.RowEnds.{HasRowEnd}
use Rattle.lab_explore.proofs.Explorations.{end_kept, end_pushed}
use Rattle.lab_explore.proofs.reached.Visited.collect.Goals as goal

pub loop-at-preserved-then-not-may_be_end : goal.loop-at-preserved-then-not-may_be_end
loop-at-preserved-then-not-may_be_end c = record {
  ends = c.loop-at.invariant.ends;
  all = λ is. below_more (λ i. HasRowEnd c.args.self.now.store c.loop-at.ends.items i (depth_of c.in_ok-depths.depths.items i)) c.loop-at.at (c.loop-at.invariant.all is)
      (λ w here rest. absurd (c.may_be_end.ensures.no is c.if-not-may_be_end.true w here rest));
}

pub loop-at-preserved : goal.loop-at-preserved
loop-at-preserved c =
    let t = c.args.self.now.store in
    let depths = c.in_ok-depths.depths.items in
    let depth = c.depth_of-depth.ensures.depth ∙ ap (λ xs. depth_of xs c.loop-at.at) c.as_slice.ensures.value in
    let start = start_of c.args.self.now in
    let ends = c.loop-at.ends.items in
    let more = c.push.new.self.items in
    let end = c.in_ok-end.end in
    let keeps = subst (λ xs. Keeps ends xs) (sym c.in_ok-push.ensures.items) (keeps_push ends end) in
    record {
      ends = subst (λ xs. All (IsEnd start) xs) (sym c.in_ok-push.ensures.items) (All-push (IsEnd start) ends end c.loop-at.invariant.ends c.in_ok-end.ensures.end);
      all = λ is. below_more (λ i. HasRowEnd t more i (depth_of depths i)) c.loop-at.at
          (λ i below w here rest. end_kept ends more w (depth_of depths i) keeps (c.loop-at.invariant.all is i below w here rest))
          (subst (λ d. HasRowEnd t more c.loop-at.at d) depth
          (λ w here rest. end_pushed t c.loop-at.at c.depth_of-depth.result w end ends more c.in_ok-push.ensures.items c.in_ok-end.ensures.row c.in_ok-end.ensures.few here));
    }

pub returns-clause-all : goal.returns-clause-all
returns-clause-all c whole is = record {
  depths = c.in_ok-depths.depths.items;
  are = c.in_ok-depths.ensures.depths;
  each = λ i w here rest.
      let below = get_past c.args.self.now.store.rows i here.0 here.1 in
      c.loop-at.invariant.all is i (omega arith) w here rest;
}
