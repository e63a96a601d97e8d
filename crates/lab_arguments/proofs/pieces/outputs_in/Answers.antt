use Rattle.std.proofs.Common.{◌<◌, [], arith, length, map, refl}
use Rattle.std.proofs.lemmas.List.{get_or-map, length-map}
use Rattle.lab_arguments.specs.Private.Outputs.{outputs_of}
use Rattle.lab_arguments.proofs.PieceLemmas.{flat_step, texts_with}
use Rattle.lab_arguments.proofs.pieces.outputs_in.Goals as goal

pub loop-value-preserved : goal.loop-value-preserved
loop-value-preserved c =
    let values = map (λ v. v.now) c.args.values.now in
    let i = c.loop-value.value-index in
    let within : i < length values = omega (arith, c.loop-value-test.true, length-map c.args.values.now (λ v. v.now)) in
    let added = texts_with c.loop-value.found.items c.in_ok-outputs_of.field-0.items c.append.new.self.items _ _ c.in_ok-append.ensures.items c.in_ok-outputs_of.ensures.outputs c.loop-value.invariant in
    flat_step outputs_of _ _ values i _ added refl within (get_or-map (λ v. v.now) c.args.values.now i _ [] c.loop-value-test.true)
