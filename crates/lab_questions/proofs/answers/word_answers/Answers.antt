use Rattle.std.proofs.Common.{◌≡◌, ◌∷◌, ◌∙◌, All, ap, arith, length, refl, sym, subst}
use Rattle.std.specs.Vec.Iter.{into_iter_items}
use Rattle.std.proofs.lemmas.List.Elements.{All-push}
use Rattle.lab_questions.specs.declared.asked.Question.TheVariants.{Require}
use Rattle.lab_questions.specs.Answered.{IsAnswer}
use Rattle.lab_questions.proofs.SoFar.{asked_next, asked_all}
use Rattle.lab_questions.proofs.answers.word_answers.Goals as goal

pub loop-word-preserved : goal.loop-word-preserved
loop-word-preserved c =
    let at = c.loop-word in
    let steps : into_iter_items at.word-iterator ≡ c.in-Some.word ∷ into_iter_items c.next.new.self = c.in-Some.ensures.steps.0 in (
      asked_next Require at.answers.items _ _ c.in-Some.word _ _ _ at.invariant.0 steps c.in_ok-push.ensures.items refl,
      let was = at.invariant.1 in
          let gone = c.in-Some.ensures.steps.1 in
          let short = ap length steps in
          omega arith,
      λ start ends.
          let each = IsAnswer start c.args.waiters.now c.args.found.now in
          subst (All each) (sym c.in_ok-push.ensures.items) (All-push each at.answers.items _ (at.invariant.2 start ends) (c.found_of-shown.ensures.found start ends)),
    )

pub returns : goal.returns
returns c =
    let at = c.loop-word in
    let all = asked_all Require at.answers.items _ _ at.invariant.0 (sym at.invariant.1 ∙ c.in-None.ensures.steps.0) in
    record { asked = rw c.into_iter-word-iterator.ensures.into_iter_gives.0 at all; each = at.invariant.2 }
