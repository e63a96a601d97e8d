use Rattle.std.proofs.Common.{◌<◌, [], arith, length, map, refl}
use Rattle.std.proofs.lemmas.List.{get_or-map, length-map}
use Rattle.lab_arguments.specs.Pieces.{words_of}
use Rattle.lab_arguments.proofs.PieceLemmas.{flat_step, texts_with}
use Rattle.lab_arguments.proofs.pieces.required_words.Goals as goal

pub loop-value-preserved : goal.loop-value-preserved
loop-value-preserved c =
    let values = map (λ v. v.now) c.args.values.now in
    let i = c.loop-value.value-index in
    let within : i < length values = omega (arith, c.loop-value-test.true, length-map c.args.values.now (λ v. v.now)) in
    let added = texts_with c.loop-value.found.items c.in_ok-words_of.field-0.items c.append.new.self.items _ _ c.in_ok-append.ensures.items c.in_ok-words_of.ensures.words c.loop-value.invariant in
    flat_step words_of _ _ values i _ added refl within (get_or-map (λ v. v.now) c.args.values.now i _ [] c.loop-value-test.true)
