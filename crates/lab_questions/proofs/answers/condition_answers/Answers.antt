use Rattle.std.proofs.Common.{◌≡◌, ◌∷◌, All, ap, arith, length, refl, sym, subst}
use Rattle.std.specs.Vec.Iter.{into_iter_items, into_iter_len}
use Rattle.std.proofs.lemmas.List.Elements.{All-push}
use Rattle.lab_questions.specs.declared.asked.Question.TheVariants.{Never}
use Rattle.lab_questions.specs.Private.Founds.{AreShown, IsConditionAnswer}
use Rattle.lab_questions.proofs.SoFar.{asked_next, shown_next, length_next}
use Rattle.lab_questions.proofs.answers.condition_answers.Goals as goal

pub loop-condition-preserved : goal.loop-condition-preserved
loop-condition-preserved c =
    let at = c.loop-condition in
    let next = c.next-in-loop-condition in
    let steps : into_iter_items at.condition-iterator ≡ c.in-Some.condition ∷ into_iter_items c.next.new.self = c.in-Some.ensures.steps.0 in (
      asked_next Never at.answers.items _ _ c.in-Some.condition _ _ _ at.invariant.0 steps c.in_ok-push.ensures.items refl,
      let was = at.invariant.1 in
          let gone = c.in-Some.ensures.steps.1 in
          let short = ap length steps in
          omega arith,
      length_next next.result (into_iter_items at.reached) (into_iter_items next.new.self) (into_iter_len at.reached) (into_iter_len next.new.self) next.ensures.cases next.ensures.items
          at.invariant.2,
      λ start shown.
          let before = at.invariant.3 start shown in
          let left = subst (λ ns. AreShown start c.args.complete ns (into_iter_items at.reached)) steps before.0 in
          let one = shown_next start c.args.complete c.in-Some.condition (into_iter_items c.next.new.self) next.result (into_iter_items at.reached) (into_iter_items next.new.self)
          (into_iter_len at.reached) (into_iter_len next.new.self) c.in_ok-found.found next.ensures.cases next.ensures.items at.invariant.2 c.in_ok-found.ensures.found left in
          let each = IsConditionAnswer start c.args.complete in
          (one.0, subst (All each) (sym c.in_ok-push.ensures.items) (All-push each at.answers.items _ before.1 one.1)),
    )
