use Rattle.std.proofs.Common.{All, Contains, arith, rules, subst}
use Rattle.std.proofs.lemmas.List.{take_all}
use Rattle.lab_questions.proofs.BasisLemmas.{others_next}
use Rattle.lab_questions.proofs.bases.first_in.Goals as goal

pub loop-basis-init : goal.loop-basis-init
loop-basis-init c = λ k d within. absurd (omega arith)

pub loop-basis-preserved : goal.loop-basis-preserved
loop-basis-preserved c =
    others_next c.args.others.now c.args.bases.now c.loop-basis.basis-index c.basis-item.result c.loop-basis-test.true c.basis-item.is (search rules) c.loop-basis.invariant

pub returns-clause-none : goal.returns-clause-none
returns-clause-none c none =
    subst (All (λ b. Contains c.args.others.now b → ⊥)) (take_all c.loop-basis.basis-index c.args.bases.now c.loop-basis-test.false) c.loop-basis.invariant
