use Rattle.std.proofs.Common.{◌≡◌, subst, arith, length, Some, slice_get, get_or}
use Rattle.std.proofs.lemmas.Option.{slice_get-get_or}
use Rattle.lab_sched.specs.Schedules.{steps_of}
use Rattle.lab_threads.proofs.Merges.{IsEnding, ending_step, ending_all}
use Rattle.lab_threads.proofs.reports.merge_ends.Goals as goal

pub loop-pid-init : goal.loop-pid-init
loop-pid-init c starts history merged = record {
  world = merged.world;
  execution = merged.execution;
  len = merged.len;
  done = λ p x k below at_x at_k. absurd (omega (arith, below));
  left = λ p x k above at_x at_k. merged.left p x k at_x at_k;
}

pub loop-pid-preserved : goal.loop-pid-preserved
loop-pid-preserved c starts history merged =
    let i = c.loop-pid.pid in
    let ws = c.args.workers.now in
    let next = c.args.next.now in
    let worker = get_or ws i c.index-workers-pid.result in
    let at : slice_get ws i ≡ Some worker = slice_get-get_or ws i c.index-workers-pid.result c.loop-pid-test.true in
    let whole : get_or next i 0 ≡ length worker.trace.calls.items = omega (arith, c.len.ensures, c.if-next-pid.false, worker.trace.calls.ok.0) in
    ending_step worker at whole c.in_ok-add.ensures.steps (c.loop-pid.invariant starts history merged)

pub returns : goal.returns
returns c =
    let all : c.loop-pid.pid ≡ length c.args.workers.now = omega arith in
    record {
      merged = λ starts history merged.
          ending_all starts c.args.workers.now c.args.next.now (steps_of c.loop-pid.schedule) history
          (subst (λ i. IsEnding starts c.args.workers.now c.args.next.now (steps_of c.loop-pid.schedule) history i) all (c.loop-pid.invariant starts history merged));
    }
