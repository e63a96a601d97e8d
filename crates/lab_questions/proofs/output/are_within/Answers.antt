use Rattle.std.proofs.Common.{◌≡◌, ◌-◌, true, false, ap, bytes_eq, drop, length, take, refl, sym, ◌∙◌, arith}
use Rattle.std.proofs.lemmas.List.{length-drop, take_all}
use Rattle.lab_questions.proofs.WithinLemmas.{within_from, within_nowhere}
use Rattle.lab_questions.proofs.output.are_within.Goals as goal

pub returns-then-starts_with : goal.returns-then-starts_with
returns-then-starts_with c =
    let bytes = c.args.bytes.now in
    let output = c.args.output.now in
    let place = c.loop-place.place in
    let value : c.starts_with.result ≡ bytes_eq bytes (take (length bytes) (drop place output)) =
    c.starts_with.ensures.value ∙ ap (λ rest. bytes_eq bytes (take (length bytes) rest)) (take_all (length output - place) (drop place output) (omega (arith, length-drop place output))) in
    record { within = (λ yes. within_from bytes output place (sym value ∙ c.if-starts_with.true), λ within. refl) }

pub returns : goal.returns
returns c = record {
  within = (
    λ no. absurd (let f : false ≡ true = no in cc),
    λ within. absurd (within_nowhere c.args.bytes.now c.args.output.now (λ i small. c.loop-place.invariant i (omega (arith, small, c.loop-place-test.false))) within),
  );
}
