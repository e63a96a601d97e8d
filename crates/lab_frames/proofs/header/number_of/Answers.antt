use Rattle.std.proofs.Common.{◌≡◌, ◌∙◌, ◌-◌, true, false, get_or, sym, arith}
use Rattle.std.specs.Char.{is_ascii_digit}
use Rattle.std.proofs.lemmas.Bool.Decides.{nat_tests}
use Rattle.lab_frames.proofs.NumberLemmas.{number_more, number_other, number_long, number_all}
use Rattle.lab_frames.proofs.header.number_of.Goals as goal

pub returns-then-not-is_ascii_digit : goal.returns-then-not-is_ascii_digit
returns-then-not-is_ascii_digit c =
    let other : is_ascii_digit (get_or c.args.word.now c.loop-digit.digit-index 0) ≡ false = grind (arith, c.is_ascii_digit.ensures.value, c.if-not-is_ascii_digit.true) in
    record { value = sym (c.loop-digit.invariant.0 ∙ number_other _ _ _ c.loop-digit-test.true other) }

pub returns-then-number-ge-LENGTH_LIMIT : goal.returns-then-number-ge-LENGTH_LIMIT
returns-then-number-ge-LENGTH_LIMIT c =
    let is : is_ascii_digit (get_or c.args.word.now c.loop-digit.digit-index 0) ≡ true = grind (arith, c.is_ascii_digit.ensures.value, c.if-not-is_ascii_digit.false) in
    record { value = sym (c.loop-digit.invariant.0 ∙ number_long _ _ _ c.loop-digit-test.true is c.if-number-ge-LENGTH_LIMIT.true) }

pub loop-digit-preserved : goal.loop-digit-preserved
loop-digit-preserved c =
    let is : is_ascii_digit (get_or c.args.word.now c.loop-digit.digit-index 0) ≡ true = grind (arith, c.is_ascii_digit.ensures.value, c.if-not-is_ascii_digit.false) in
    let digit : c.from.result ≡ get_or c.args.word.now c.loop-digit.digit-index 0 - 48 = grind (arith, c.from.ensures) in (
      c.loop-digit.invariant.0 ∙ number_more _ _ _ c.from.result c.loop-digit-test.true is (grind (arith, c.if-number-ge-LENGTH_LIMIT.false)) digit,
      grind (arith, digit, c.if-number-ge-LENGTH_LIMIT.false, c.if-not-is_ascii_digit.ensures.bound),
    )

pub returns : goal.returns
returns c = record { value = sym (c.loop-digit.invariant.0 ∙ number_all c.loop-digit.number c.args.word.now c.loop-digit.digit-index (grind (arith, c.loop-digit-test.false))) }
