use Rattle.std.proofs.Common.{[], ◌∷◌, ℕ, cond, Bor, List, ap, filter, map, rules, ◌∙◌}
use Rattle.std.proofs.lemmas.Fn.{filter_same}
use Rattle.lab_arguments.specs.Pieces.{cut_pieces, is_output}
use Rattle.lab_arguments.proofs.PieceLemmas.{texts_chosen}
use Rattle.lab_arguments.proofs.pieces.outputs_of.Goals as goal

pub returns : goal.returns
returns c =
    let chosen = ap (map (λ (p : Bor (List ℕ)). p.now)) (filter_same _ (λ (p : Bor (List ℕ)). is_output p.now) _ (λ x b f k. search rules) _ _ c.retain.ensures.filtered)
    ∙ texts_chosen is_output c.in_ok-pieces.pieces.items ∙ ap (filter is_output) c.in_ok-pieces.ensures.pieces in
    record { outputs = chosen ∙ ap (λ b. cond b (c.args.value.now ∷ []) (filter is_output (cut_pieces c.args.value.now))) c.if-is_of_calls.ensures.value }
