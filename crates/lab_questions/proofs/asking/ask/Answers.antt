use Rattle.std.proofs.Common.{◌≡◌, ◌∙◌, All, false, refl, subst, sym}
use Rattle.lab_sched.specs.Starts.{fresh}
use Rattle.lab_worlds.specs.Met.{IsCutShort}
use Rattle.lab_questions.specs.Answered.{IsAnswer}
use Rattle.lab_questions.specs.Failures.{Passes}
use Rattle.lab_questions.specs.Private.Founds.{IsConditionAnswer}
use Rattle.lab_questions.specs.Searches.{HasEnds, HasRound}
use Rattle.lab_questions.proofs.FailureLemmas.{passes}
use Rattle.lab_questions.proofs.SoFar.{conditions_so, calls_so}
use Rattle.lab_questions.proofs.ToldLemmas.{tell_every_end}
use Rattle.lab_questions.proofs.asking.ask.Goals as goal

pub returns-clause-answers : goal.returns-clause-answers
returns-clause-answers g c =
    let start = fresh c.args.profile c.args.programs.now in
    let found = c.in_ok-exploration.field-0 in
    let e = found.exploration in
    let waiters = c.deref.result.now in
    let ends = subst (λ w. HasEnds w e) c.in_ok-fresh.ensures.start c.in_ok-exploration.ensures.ends in
    let conditions = subst (λ w. All (IsConditionAnswer w e.complete) found.conditions.items) c.in_ok-fresh.ensures.start c.in_ok-exploration.ensures.each in
    let all = c.in_ok-answers.ensures.each start (record { sound = ends.sound; all = ends.all }) (conditions_so start waiters e found.conditions.items conditions)
    (calls_so start waiters e c.in_ok-called.called.items c.in_ok-called.ensures.each) in
    subst (λ ws. All (IsAnswer start ws e) c.in_ok-answers.answers.items) c.deref.ensures.value all

pub returns-clause-told : goal.returns-clause-told
returns-clause-told g c complete =
    let ends = subst (λ w. HasEnds w c.in_ok-exploration.field-0.exploration) c.in_ok-fresh.ensures.start c.in_ok-exploration.ensures.ends in
    tell_every_end c.args.asked.show (fresh c.args.profile c.args.programs.now) c.in_ok-exploration.field-0.exploration.ends.items ends.sound (ends.all complete)

pub returns-clause-says : goal.returns-clause-says
returns-clause-says g c =
    let start = fresh c.args.profile c.args.programs.now in
    let e = c.in_ok-exploration.field-0.exploration in
    let ends = subst (λ w. HasEnds w e) c.in_ok-fresh.ensures.start c.in_ok-exploration.ensures.ends in
    let round = subst (λ w. HasRound w e) c.in_ok-fresh.ensures.start c.in_ok-exploration.ensures.round in
    let says = c.in_ok-said.ensures.says refl in
    record {
      all = λ said. let complete = says.complete said in says.every start ends.sound ends.ordered (ends.all complete) (ends.fewest complete);
      free = λ said quiet. ends.free (says.complete said) (says.free start ends.sound quiet);
      bounded = λ unfair said quiet. round.bounded unfair (says.complete said) (says.bounded quiet);
    }

pub returns-clause-passes : goal.returns-clause-passes
returns-clause-passes g c none =
    let e = c.in_ok-exploration.field-0.exploration in
    let empty = c.deref-3.result.now in
    subst (Passes e c.in_ok-answers.answers.items) c.deref-3.ensures.value
    (subst (λ answers. Passes e answers empty) c.deref-2.ensures.value (passes e c.deref-2.result.now empty (sym c.in_ok-said.ensures.failure ∙ none)))

pub returns-clause-met : goal.returns-clause-met
returns-clause-met g c =
    let e = c.in_ok-exploration.field-0.exploration in
    subst (λ w. e.complete ≡ false → IsCutShort w c.args.limits e) c.in_ok-fresh.ensures.start c.in_ok-exploration.ensures.met
