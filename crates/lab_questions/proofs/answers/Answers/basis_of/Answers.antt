use Rattle.std.proofs.Common.{◌≡◌, ◌∙◌, All, Contains, None}
use Rattle.lab_conditions.proofs.WordLemmas.{if_ok}
use Rattle.lab_questions.specs.Bases.{bases_questioned}
use Rattle.lab_questions.proofs.BasisLemmas.{none_among}
use Rattle.lab_questions.proofs.answers.Answers.basis_of.Goals as goal

pub returns-clause-none : goal.returns-clause-none
returns-clause-none c =
    if_ok (λ found. found ≡ None → All (λ b. Contains c.deref-2.result.now b → ⊥) c.deref.result.now)
    (λ found. found ≡ None → All (λ b. Contains c.args.self.now.empty.items b → ⊥) (bases_questioned c.args.question.now)) c.first_in.result
    (λ found absent none. none_among c.deref-2.result.now c.args.self.now.empty.items c.deref.result.now (bases_questioned c.args.question.now)
    c.deref-2.ensures.value (c.deref.ensures.value ∙ c.in_ok-bases.ensures.bases) (absent none)) c.first_in.ensures.none
