use Rattle.std.proofs.Common.{◌≡◌, ◌+◌, length, take, get_or, ap, ◌∙◌, sym, arith, length-append, below_more}
use Rattle.std.proofs.lemmas.List.{length-replicate, take_all}
use Rattle.lab_sched.specs.Schedules.{block, steps_of}
use Rattle.lab_sched.proofs.ScheduleRuns.{steps_of-none, steps-more, next-step, steps-among, steps-few}
use Rattle.lab_trace.proofs.MissingLemmas.{missing-at, missing-none, there-more, block-some}
use Rattle.lab_trace.proofs.tracing.missing_after.Goals as goal

pub loop-block-init : goal.loop-block-init
loop-block-init c = record { done = ap length (sym steps_of-none); there = λ k h. absurd (omega arith); pids = λ j h. absurd (omega arith) }

pub returns-then-block-count-clause-missing : goal.returns-then-block-count-clause-missing
returns-then-block-count-clause-missing c =
    let bs = c.args.schedule.now in
    let i = c.loop-block.block-index in
    let within = rw c.blocks-block-items.ensures.value at c.loop-block-test.true in
    let past = rw c.blocks-block-items.ensures.value at c.if-block-count.true in
    let some = block-some bs i (block 0 0) c.blocks-block-items.ensures.schedule within in
    let among = steps-among bs i (block 0 0) within in
    let at = next-step bs i 0 c.loop-block.done (block 0 0) within (omega (arith, some)) c.loop-block.invariant.done in
    let here : c.loop-block.done + 0 ≡ c.loop-block.done = omega arith in
    let process = rw here at at in
    sym (missing-at c.args.world.now (steps_of bs) c.loop-block.done (omega (arith, some, among, c.loop-block.invariant.done)) c.loop-block.invariant.there (omega (arith, process, past, c.count.ensures.count)))

pub overflow_add-done : goal.overflow_add-done
overflow_add-done c =
    let bs = c.args.schedule.now in
    let within = rw c.blocks-block-items.ensures.value at c.loop-block-test.true in
    let few = steps-few bs c.blocks-block-items.ensures.schedule in
    let among = steps-among bs c.loop-block.block-index (block 0 0) within in
    let count = rw c.blocks-block-items.ensures.value at c.from-done.ensures in
    omega (arith, few, among, c.loop-block.invariant.done, count)

pub loop-block-preserved : goal.loop-block-preserved
loop-block-preserved c =
    let bs = c.args.schedule.now in
    let i = c.loop-block.block-index in
    let within = rw c.blocks-block-items.ensures.value at c.loop-block-test.true in
    let inside = rw c.blocks-block-items.ensures.value at c.if-block-count.false in
    let count = rw c.blocks-block-items.ensures.value at c.from-done.ensures in
    let more = ap length (steps-more bs i (block 0 0) within) ∙ length-append (steps_of (take i bs)) _ in
    let there = there-more (length c.args.world.now.processes) bs i c.loop-block.done (block 0 0) within c.loop-block.invariant.done (omega (arith, inside, c.count.ensures.count)) c.loop-block.invariant.there in
    record {
      done = omega (arith, more, length-replicate (get_or bs i (block 0 0)).count (get_or bs i (block 0 0)).pid, c.loop-block.invariant.done, count);
      there = λ k h. there k (omega (arith, count));
      pids = below_more _ _ c.loop-block.invariant.pids (omega (arith, inside, c.count.ensures.count));
    }

pub returns-clause-missing : goal.returns-clause-missing
returns-clause-missing c =
    let bs = c.args.schedule.now in
    let i = c.loop-block.block-index in
    let end = rw c.blocks-block-items.ensures.value at c.loop-block-test.false in
    let all : c.loop-block.done ≡ length (steps_of bs) = c.loop-block.invariant.done ∙ ap (λ xs. length (steps_of xs)) (take_all i bs end) in
    sym (missing-none c.args.world.now (steps_of bs) (rw (← all) c.loop-block.invariant.there))
