use Rattle.std.proofs.Common.{◌≡◌, ◌∙◌, All, false, true, subst, sym}
use Rattle.lab_questions.specs.Answered.{IsAnswer}
use Rattle.lab_questions.specs.Private.Founds.{AreEndsOf, AreShown, IsConditionAnswer}
use Rattle.lab_questions.proofs.FailureLemmas.{open_fails}
use Rattle.lab_questions.proofs.SoFar.{none_shown, conditions_so, calls_so}
use Rattle.lab_questions.proofs.answers.ask_walks.Goals as goal

pub returns-clause-answers : goal.returns-clause-answers
returns-clause-answers g c =
    let start = c.args.fresh in
    let e = c.in_ok-exploration.exploration in
    let waiters = c.deref.result.now in
    let shown = subst (AreShown start false c.args.asked.never.items) (sym c.new-reached.ensures.items) (none_shown start false c.args.asked.never.items) in
    let conditions = subst (λ b. All (IsConditionAnswer start b) c.in_ok-conditions.conditions.items) (sym c.in_ok-exploration.ensures.open) (c.in_ok-conditions.ensures.each start shown) in
    let ends : AreEndsOf start e = record { sound = c.in_ok-exploration.ensures.sound; all = λ complete. absurd (let no : true ≡ false = sym complete ∙ c.in_ok-exploration.ensures.open in cc) } in
    let all = c.in_ok-answers.ensures.each start ends (conditions_so start waiters e c.in_ok-conditions.conditions.items conditions)
    (calls_so start waiters e c.in_ok-called.called.items (c.in_ok-called.ensures.each start)) in
    subst (λ ws. All (IsAnswer start ws e) c.in_ok-answers.answers.items) c.deref.ensures.value all

pub returns-clause-fails : goal.returns-clause-fails
returns-clause-fails g c none =
    open_fails c.in_ok-exploration.exploration c.deref-2.result.now c.deref-3.result.now c.in_ok-exploration.ensures.open (sym c.in_ok-said.ensures.failure ∙ none)
