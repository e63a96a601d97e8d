use Rattle.std.proofs.Common.{rules, tests}
use Rattle.std.proofs.lemmas.Iterator.{YieldsList-from_slice, cases_from_all}
use Rattle.lab_questions.specs.Outputs.{HasOutput}
use Rattle.lab_questions.specs.Requirements.{outputs}
use Rattle.lab_questions.specs.declared.output.OutputPart.{OutputPart}
use Rattle.lab_questions.proofs.ListLemmas.{all_told}
use Rattle.lab_questions.proofs.output.have_outputs.Goals as goal

pub returns : goal.returns
returns c =
    let Has : OutputPart → Type 0 = λ part. HasOutput part (outputs c.args.world.now) in
    record {
      written = all_told Has c.args.alternative.now.parts.items c.all.result
          (cases_from_all _ _ c.all.result Has (λ part. Has part → ⊥) c.all.ensures.ran (YieldsList-from_slice c.args.alternative.now.parts.items cc)
          (λ x q k. search (rules, tests)) (λ x q k. search (rules, tests)));
    }
