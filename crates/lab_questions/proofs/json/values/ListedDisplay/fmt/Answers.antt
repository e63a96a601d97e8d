use Rattle.std.proofs.Common.{◌≡◌, ◌++◌, [], ◌∙◌, ap, arith, get_or, rules, take}
use Rattle.std.proofs.Output.{has_written_append, has_written_of_eq}
use Rattle.lab_questions.specs.Private.Rows.{comma_before}
use Rattle.lab_questions.specs.Values.{values_json}
use Rattle.lab_questions.proofs.ValueLemmas.{values_next}
use Rattle.lab_questions.proofs.json.values.ListedDisplay.fmt.Goals as goal

pub loop-place-preserved : goal.loop-place-preserved
loop-place-preserved g c = λ plain.
    let vs = g.V.Values.values c.args.self.now.0 in
    let place = c.loop-place.place in
    let is : c.if-place-gt0.comma.now ≡ comma_before place = search rules in
    let next = ap (λ comma. values_json (take place vs) ++ (comma ++ get_or vs place [])) is ∙ values_next vs place (omega arith) in
    let before = c.loop-place.invariant plain in
    let comma = c.in_ok-write.ensures.writes before.plain (cc) in
    has_written_of_eq _ _ _ _ _ next
    (has_written_append _ _ _ _ _ _ before (has_written_append _ _ _ _ _ _ comma (c.in_ok-write-2.ensures.value comma.plain (cc))))
