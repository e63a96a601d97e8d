use Rattle.std.proofs.Common.{◌-◌, ◌+◌, ◌∙◌, ap, refl, sym, arith, rules}
use Rattle.lab_sched.specs.Held.{process_view}
use Rattle.lab_sched.specs.Private.Moved.{has_moved}
use Rattle.lab_sched.proofs.LocalSteps.{came}
use Rattle.lab_sched.proofs.Runs.{run-one, run_unmoved}
use Rattle.lab_sched.proofs.WorldLemmas.{run_locals, run_next}
use Rattle.lab_sched.proofs.stepping.untold.advance.Goals as goal

pub returns-then-taken-most-clause-advances : goal.returns-then-taken-most-clause-advances
returns-then-taken-most-clause-advances c = search (rules, came, run_locals)

pub returns-in-Ok-true-clause-advances : goal.returns-in-Ok-true-clause-advances
returns-in-Ok-true-clause-advances c =
    let n = c.local_steps-taken.result.0 in
    let x = process_view c.local_steps-taken.new.process in
    let locals = run_locals c.args.kernel.now c.args.pid (process_view c.args.process.now) x n c.local_steps-taken.ensures.local in
    let moved = c.in-Ok-true.ensures.moves.ok in
    came (run_next c.args.kernel.now _ c.args.pid (process_view c.args.process.now) x _ moved.0 n 1 (n + 1) locals moved.1 (λ v _. sym (run-one v c.args.pid)) refl)
    c.move_on.ensures.moves.held c.move_on.ensures.moves.count

pub returns-in-Ok-false-clause-advances : goal.returns-in-Ok-false-clause-advances
returns-in-Ok-false-clause-advances c =
    let n = c.local_steps-taken.result.0 in
    let x = process_view c.local_steps-taken.new.process in
    let locals = run_locals c.args.kernel.now c.args.pid (process_view c.args.process.now) x n c.local_steps-taken.ensures.local in
    let moved = c.in-Ok-false.ensures.moves.ok in
    came (run_next c.args.kernel.now _ c.args.pid (process_view c.args.process.now) x _ moved.0 n (c.args.most - n) c.args.most locals moved.1
    (λ v is. run_unmoved v c.args.pid (c.args.most - n) (sym c.in-Ok-false.field-0-test ∙ moved.2 ∙ ap has_moved is)) (omega (arith, c.local_steps-taken.ensures.within)))
    c.move_on.ensures.moves.held c.move_on.ensures.moves.count

pub returns-then-taken-gt0-clause-advances : goal.returns-then-taken-gt0-clause-advances
returns-then-taken-gt0-clause-advances c = search (rules, run_locals, came)
