use Rattle.std.proofs.Common.{◌≡◌, ap, subst, sym, ◌∙◌}
use Rattle.std.specs.List.{list_any}
use Rattle.lab_ways.specs.Calls.{is_called}
use Rattle.lab_ways.specs.Wanted.{next_by}
use Rattle.lab_ways.proofs.NextStates.{unread_turn, unread_units, unread_none}
use Rattle.lab_ways.proofs.wanted.Pattern.reads.Goals as goal

pub returns-in-Together : goal.returns-in-Together
returns-in-Together c = record {
  no = λ none s k p.
      subst (λ x. next_by x s k p c.args.call.now ≡ s) (sym c.in-Together.is) (unread_units c.in-Together.field-0.items s k p c.args.call.now (sym c.moves_units.ensures.value ∙ none));
}

pub returns-in-InOrder : goal.returns-in-InOrder
returns-in-InOrder c = record {
  no = λ none s k p.
      let named = ap (list_any (λ x. is_called x.service c.args.call.now)) (sym c.deref.ensures.value) ∙ sym c.are_called.ensures.value ∙ none in
      subst (λ x. next_by x s k p c.args.call.now ≡ s) (sym c.in-InOrder.is) (unread_turn c.in-InOrder.kinds.items s k p c.args.call.now named);
}

pub returns-in-NoneOf : goal.returns-in-NoneOf
returns-in-NoneOf c = record {
  no = λ none s k p.
      let named = ap (list_any (λ x. is_called x.service c.args.call.now)) (sym c.deref-in-NoneOf.ensures.value) ∙ sym c.are_called-in-NoneOf.ensures.value ∙ none in
      subst (λ x. next_by x s k p c.args.call.now ≡ s) (sym c.in-NoneOf.is) (unread_none c.in-NoneOf.kinds.items s k p c.args.call.now named);
}
