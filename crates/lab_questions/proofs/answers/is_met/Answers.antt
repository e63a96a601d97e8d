use Rattle.std.proofs.Common.{◌≡◌, true, false, subst, sym, ◌∙◌}
use Rattle.lab_sched.specs.declared.verdict.Verdict.TheVariants.{Stuck}
use Rattle.lab_sched.proofs.VerdictLemmas.{verdict_from}
use Rattle.lab_questions.specs.Judgments.{Meets}
use Rattle.lab_questions.proofs.answers.is_met.Goals as goal

pub returns-in_default : goal.returns-in_default
returns-in_default c = record {
  met = (
    λ no. absurd (let f : false ≡ true = no in cc),
    λ met. absurd (c.in_default.not-Stuck (c.verdict.ensures.worked_out
        ∙ sym (verdict_from c.args.world.now Stuck (subst (λ word. Meets word c.args.waiters.now c.args.other.now c.args.world.now) c.in-Stuck.is met)))),
  );
}
