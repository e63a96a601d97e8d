use Rattle.std.proofs.Common.{◌++◌, ◌∙◌, ap, flat_map, string_bytes, sym}
use Rattle.ipc_kernel.specs.Limits.{object_places}
use Rattle.std.proofs.lemmas.List.{take_all}
use Rattle.std.proofs.lemmas.List.Folds.{flat_map-map}
use Rattle.lab_questions.specs.Left.{left_lines, left_places, left_text}
use Rattle.lab_questions.proofs.left.push_left.Goals as goal

pub returns : goal.returns
unfolding left_text
returns c = record {
  text = c.loop-left.invariant ∙ ap (λ lines. string_bytes c.args.text.now ++ lines)
      (ap (flat_map (λ left. string_bytes left.lines)) (take_all c.loop-left.left-index c.deref-left-items.result.now c.loop-left-test.false ∙ c.deref-left-items.ensures.value)
      ∙ sym (flat_map-map (λ lines. lines) (λ left. string_bytes left.lines) c.in_ok-lefts.lefts.items) ∙ ap (flat_map (λ lines. lines)) c.in_ok-lefts.ensures.lefts.lines
      ∙ flat_map-map (λ lines. lines) left_lines (left_places object_places c.args.kernel.now));
}
