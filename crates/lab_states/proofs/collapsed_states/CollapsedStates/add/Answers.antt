use Rattle.std.proofs.Common.{◌≡◌, ◌++◌, ◌∷◌, [], subst, sym, ◌∙◌, ap, rules}
use Rattle.ipc_kernel.specs.OwnCalls.{is_unlink}
use Rattle.lab_conditions.specs.Conditions.{option_any}
use Rattle.lab_states.specs.Private.Standing.{IsStanding, AreStanding}
use Rattle.lab_states.proofs.KeptNames.{all_keep_push}
use Rattle.lab_worlds.proofs.Pushes.{alongside_push}
use Rattle.lab_states.proofs.collapsed_states.CollapsedStates.add.Goals as goal

pub invariant_of-self-2 : goal.invariant_of-self-2
invariant_of-self-2 c =
    let old = c.self.invariant in
    let unlinks : c.is_some_and.result ≡ option_any is_unlink c.args.call = search rules in
    let more = alongside_push IsStanding c.self.inside.states.items c.self.inside.calls.items c.args.collapsed c.args.call old.0 c.requires.stands in
    let states = c.push_reserved.ensures.items ∙ ap (λ xs. xs ++ c.args.collapsed ∷ []) c.reserve.ensures.items in
    let calls = c.push_reserved-2.ensures.items ∙ ap (λ xs. xs ++ c.args.call ∷ []) c.reserve-2.ensures.items in (
      subst (λ xs. AreStanding xs c.push_reserved-2.new.self.items) (sym states) (subst (λ xs. AreStanding (c.self.inside.states.items ++ c.args.collapsed ∷ []) xs) (sym calls) more),
      all_keep_push c.self.inside.unlinks c.is_some_and.result c.self.inside.states.items c.push_reserved.new.self.items c.args.collapsed c.args.call old.1 c.requires.stands unlinks states,
    )
