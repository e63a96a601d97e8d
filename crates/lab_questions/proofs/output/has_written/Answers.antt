use Rattle.std.proofs.Common.{All, rules, tests}
use Rattle.std.proofs.lemmas.Iterator.{YieldsList-from_slice, cases_from_any}
use Rattle.lab_questions.specs.Outputs.{HasOutput}
use Rattle.lab_questions.specs.Requirements.{outputs}
use Rattle.lab_questions.specs.declared.output.Alternative.{Alternative}
use Rattle.lab_questions.proofs.ListLemmas.{any_told}
use Rattle.lab_questions.proofs.output.has_written.Goals as goal

pub returns : goal.returns
returns c =
    let Has : Alternative → Type 0 = λ a. All (λ part. HasOutput part (outputs c.args.world.now)) a.parts.items in
    record {
      written = any_told Has c.args.need.now.alternatives.items c.any.result
          (cases_from_any _ _ c.any.result Has (λ a. Has a → ⊥) c.any.ensures.ran (YieldsList-from_slice c.args.need.now.alternatives.items cc)
          (λ x q k. search (rules, tests)) (λ x q k. search (rules, tests)));
    }
