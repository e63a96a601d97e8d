use Rattle.std.proofs.Common.{sym, ap, rules, ◌∙◌, ◌++◌, ◌≡◌, [], drop, take, arith, append-nil}
use Rattle.std.proofs.lemmas.List.{drop_all, drop_more}
use Rattle.lab_sched.specs.Schedules.{steps_of}
use Rattle.lab_session.proofs.BlockLemmas.{take-more, nothing-taken, take-none}
use Rattle.lab_session.proofs.stepping.first_steps.Goals as goal

pub loop-block-init : goal.loop-block-init
loop-block-init c = nothing-taken c.new-first.result.items _ c.new-first.ensures.items

pub loop-block-preserved : goal.loop-block-preserved
loop-block-preserved c =
    let cut = drop_more c.args.blocks.now c.loop-block.block-index (record { pid = 0; count = 0 }) c.loop-block-test.true in
    let same : c.from-left.result ≡ c.min-count.result = search rules in
    rw same (take-more _ _ (steps_of c.loop-block.first.items) _ _ c.loop-block.left c.min-count.result (search rules) c.in_ok-push_steps.ensures.steps
    (ap (λ bs. steps_of c.loop-block.first.items ++ take c.loop-block.left (steps_of bs)) (sym cut) ∙ c.loop-block.invariant))

pub returns : goal.returns
returns c =
    let none : drop c.loop-block.block-index c.args.blocks.now ≡ [] = drop_all c.loop-block.block-index c.args.blocks.now (omega (arith, c.loop-block-test.false)) in
    record {
      steps = sym (append-nil (steps_of c.loop-block.first.items))
          ∙ ap (λ zs. steps_of c.loop-block.first.items ++ zs) (sym (ap (λ bs. take c.loop-block.left (steps_of bs)) none ∙ take-none c.loop-block.left))
          ∙ c.loop-block.invariant;
    }
