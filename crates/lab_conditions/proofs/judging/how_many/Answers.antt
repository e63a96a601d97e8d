use Rattle.std.proofs.Common.{◌≡◌, ◌<◌, ◌+◌, length, map, get_or, ap, sym, ◌∙◌, arith, rules}
use Rattle.std.proofs.lemmas.List.{length-map, get_or-map}
use Rattle.lab_sched.specs.Held.{process_view}
use Rattle.lab_conditions.specs.Conditions.{is_so}
use Rattle.lab_conditions.proofs.Counts.{counted_yes, counted_no, counted_all}
use Rattle.lab_conditions.proofs.judging.how_many.Goals as goal
use Rattle.lab_conditions.proofs.judging.how_many.Goals.{then-branch, else-branch}

pub loop-pid-preserved : goal.loop-pid-preserved
loop-pid-preserved c =
    let processes = c.args.processes.now in
    let seen = map (λ s. process_view s.now) processes in
    let k = c.args.kernel.now in
    let i = c.loop-pid.pid in
    let s = process_view c.index-processes-pid.result.now in
    let within : i < length seen = omega (arith, length-map processes (λ s. process_view s.now), c.loop-pid-test.true) in
    let at : get_or seen i s ≡ s =
    get_or-map (λ s. process_view s.now) processes i c.index-processes-pid.result s c.loop-pid-test.true ∙ ap (λ r. process_view r.now) (sym c.index-processes-pid.is) in
    let so = ap (λ x. is_so c.args.state k i x) at ∙ sym c.in_ok-is_so.ensures.so in
    elim c.if-branch.branch [
      | then-branch w ↦ record {
        few = omega (arith, w.count-is, c.loop-pid.invariant.few);
        counted = w.count-is ∙ ap (λ n. n + 1) c.loop-pid.invariant.counted ∙ sym (counted_yes c.args.state k seen i s within (so ∙ w.if-branch.true));
      }
      | else-branch w ↦ record {
        few = omega (arith, w.count-is, c.loop-pid.invariant.few);
        counted = w.count-is ∙ c.loop-pid.invariant.counted ∙ sym (counted_no c.args.state k seen i s within (so ∙ w.if-branch.false));
      }
    ]

pub returns : goal.returns
returns c = search (rules, counted_all, length-map, c.loop-pid.invariant.counted, c.loop-pid.pid, c.loop-pid-test.false)
