use Rattle.std.proofs.Common.{◌++◌, ◌∷◌, [], ◌∙◌, ap}
use Rattle.lab_states.proofs.PieceLemmas.{added, added_extends, added_chained}
use Rattle.lab_states.proofs.outputs.Outputs.add.Goals as goal

pub invariant_of-self-2 : goal.invariant_of-self-2
invariant_of-self-2 c =
    added_chained c.self.inside.pieces.items c.push_reserved.new.self.items c.args.piece c.args.self.now c.self.view_is
    (c.push_reserved.ensures.items ∙ ap (λ xs. xs ++ c.args.piece ∷ []) c.reserve.ensures.items) c.self.invariant c.requires.before

pub returns-clause-extends : goal.returns-clause-extends
returns-clause-extends c =
    added_extends c.self.inside.pieces.items c.push_reserved.new.self.items c.args.piece c.args.self.now c.self.view_is
    (c.push_reserved.ensures.items ∙ ap (λ xs. xs ++ c.args.piece ∷ []) c.reserve.ensures.items)

pub returns-clause-added : goal.returns-clause-added
returns-clause-added c =
    added c.self.inside.pieces.items c.push_reserved.new.self.items c.args.piece c.args.self.now c.len.result c.self.view_is
    (c.push_reserved.ensures.items ∙ ap (λ xs. xs ++ c.args.piece ∷ []) c.reserve.ensures.items) (c.len.ensures ∙ c.push_reserved.new.self.ok.0)
