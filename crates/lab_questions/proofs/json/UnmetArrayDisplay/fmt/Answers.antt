use Rattle.std.proofs.Common.{◌∙◌, ap, map, sym}
use Rattle.std.proofs.Output.{has_written_of_eq}
use Rattle.std.proofs.lemmas.Simd.{map-map}
use Rattle.lab_questions.specs.Findings.{unmet_json}
use Rattle.lab_questions.specs.Private.Rows.{unmet_view}
use Rattle.lab_questions.specs.Values.{array_json}
use Rattle.lab_questions.proofs.json.UnmetArrayDisplay.fmt.Goals as goal

pub returns-clause-writes : goal.returns-clause-writes
returns-clause-writes g c = λ plain ok.
    let told = rw (c.deref.ensures.value, c.as_slice-ends.ensures.value) at c.in_ok-unmets.ensures.unmets in
    has_written_of_eq _ _ _ _ _
    (ap array_json (sym (map-map unmet_json unmet_view c.deref-2.result.now)) ∙ ap (λ us. array_json (map unmet_json us)) (ap (map unmet_view) c.deref-2.ensures.value ∙ told))
    (c.write.ensures.writes plain ok)
