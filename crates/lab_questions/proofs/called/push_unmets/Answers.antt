use Rattle.std.proofs.Common.{◌∙◌, ◌++◌, ap, flat_map, string_bytes, sym}
use Rattle.std.proofs.lemmas.List.{take_all}
use Rattle.lab_questions.specs.Private.Rows.{unmet_view}
use Rattle.lab_questions.specs.Texts.{unmet_lines}
use Rattle.lab_questions.proofs.ListLemmas.{flat_map-map}
use Rattle.lab_questions.proofs.called.push_unmets.Goals as goal

pub returns : goal.returns
returns c =
    let items = c.deref-unmet-items.result.now in
    record {
      text = c.loop-unmet.invariant
          ∙ ap (λ us. string_bytes c.args.text.now ++ flat_map (λ u. unmet_lines (unmet_view u)) us) (take_all c.loop-unmet.unmet-index items c.loop-unmet-test.false)
          ∙ ap (λ l. string_bytes c.args.text.now ++ l)
          (ap (flat_map (λ u. unmet_lines (unmet_view u))) c.deref-unmet-items.ensures.value ∙ sym (flat_map-map unmet_lines unmet_view c.in_ok-unmets.unmets.items)
          ∙ ap (flat_map unmet_lines) c.in_ok-unmets.ensures.unmets);
    }
