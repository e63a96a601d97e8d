use Rattle.std.proofs.Common.{rules, sym, ap, ◌∙◌, ◌≡◌, ◌==◌, ◌++◌, ◌+◌, ◌<◌, false, [], drop, replicate, get_or, string_bytes, arith}
use Rattle.std.proofs.lemmas.List.{drop_all, drop_more}
use Rattle.lab_sched.specs.Schedules.{steps_of}
use Rattle.lab_session.specs.Taken.{blocks_text}
use Rattle.lab_session.proofs.TakenLemmas.{same-all, same-run, other-run, no-run, last-run}
use Rattle.lab_session.proofs.stepping.taken_text.Goals as goal
use Rattle.lab_session.proofs.stepping.taken_text.Goals.{then-block-pid+in-Some, else-block-pid+then-block-gt0+in_ok-push_run, else-block-pid+else-block-gt0}

pub loop-block-preserved : goal.loop-block-preserved
loop-block-preserved c =
    let bs = c.args.blocks.now in
    let i = c.loop-block.block-index in
    let b = get_or bs i (record { pid = 0; count = 0 }) in
    let rest = drop (i + 1) bs in
    let text = string_bytes c.loop-block.text in
    let p = c.loop-block.pid in
    let n = c.loop-block.count in
    let cut = drop_more bs i (record { pid = 0; count = 0 }) c.loop-block-test.true in
    let before = ap (λ ys. text ++ blocks_text (replicate n p ++ steps_of ys)) (sym cut) ∙ c.loop-block.invariant in
    elim c.if-block-pid.branch [
      | then-block-pid+in-Some w ↦
          let same : b.pid ≡ p = search rules in
          let sum : w.in-Some.sum ≡ n + b.count = search rules in
          same-all _ text _ w.in-Some.sum _ p rest (ap string_bytes w.text-is) w.count-is w.pid-is
          ∙ same-run text _ n w.in-Some.sum p b rest same sum before
      | else-block-pid+then-block-gt0+in_ok-push_run w ↦
          let other : (b.pid == p) ≡ false = search rules in
          let some : 0 < b.count = search rules in
          let count : c.if-block-pid.count ≡ b.count = search rules in
          same-all _ (string_bytes w.push_run.new.text) _ b.count _ b.pid rest (ap string_bytes w.text-is) count w.pid-is
          ∙ other-run text (string_bytes w.push_run.new.text) _ n p b rest other some w.in_ok-push_run.ensures.text before
      | else-block-pid+else-block-gt0 w ↦
          let none : b.count ≡ 0 = search rules in
          same-all _ text _ n _ p rest (ap string_bytes w.text-is) w.count-is w.pid-is ∙ no-run text _ n p b rest none before
    ]

pub returns : goal.returns
returns c =
    let bs = c.args.blocks.now in
    let none : drop c.loop-block.block-index bs ≡ [] = drop_all c.loop-block.block-index bs (omega (arith, c.loop-block-test.false)) in
    let text = string_bytes c.loop-block.text in
    let p = c.loop-block.pid in
    let n = c.loop-block.count in
    let all = last-run text (string_bytes c.push_run-2.new.text) _ n p c.in_ok-push_run-2.ensures.text
    (ap (λ ys. text ++ blocks_text (replicate n p ++ steps_of ys)) (sym none) ∙ c.loop-block.invariant) in
    search (rules, all)
