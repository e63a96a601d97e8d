use Rattle.std.proofs.Common.{◌≡◌, Option, Some, None, rules, arith, ◌≤◌, List, ℕ, [], length, get_or, map, sym, ap, ◌∙◌, below_more, Ok}
use Rattle.std.specs.List.{filter_map}
use Rattle.std.proofs.lemmas.List.{get_or-map, length-map, take_all}
use Rattle.lab_hex.specs.Hex.{number_of}
use Rattle.lab_hex.proofs.HexLemmas.{numbers_of-bad, numbers_of-good, is_bad-none, is_bad-some, filter_map-take-more}
use Rattle.lab_hex.proofs.run.read_numbers.Goals as goal

pub returns-in_err-number-clause-err : goal.returns-in_err-number-clause-err
returns-in_err-number-clause-err c =
    let words = map (λ word. word.now) c.args.words.now in
    let at = get_or-map (λ word. word.now) c.args.words.now c.loop-i.i (record { ref_ptr = (0, 0); now = [] }) [] c.loop-i-test.true in
    let none : ◌≡◌ {A = Option ℕ} None c.read_number.result = let h = c.ok_or.ensures.ok_part in let w = c.in_err-number.was in search rules in
    let bad = numbers_of-bad words c.loop-i.i (rw length-map c.loop-i-test.true) c.loop-i.invariant.good
    (is_bad-none (get_or words c.loop-i.i []) (none ∙ c.read_number.ensures.value ∙ ap number_of (sym at))) in search (rules, bad)

pub loop-i-preserved : goal.loop-i-preserved
loop-i-preserved c =
    let words = map (λ word. word.now) c.args.words.now in
    let at = get_or-map (λ word. word.now) c.args.words.now c.loop-i.i (record { ref_ptr = (0, 0); now = [] }) [] c.loop-i-test.true in
    let some : ◌≡◌ {A = Option ℕ} (Some c.in_ok-number.number) c.read_number.result = search rules in
    let number = some ∙ c.read_number.ensures.value ∙ ap number_of (sym at) in record {
      good = below_more _ _ c.loop-i.invariant.good (is_bad-some (get_or words c.loop-i.i []) _ number);
      read = rw (c.in_ok-push.ensures.items, c.loop-i.invariant.read)
          (sym (filter_map-take-more words c.loop-i.i _ (rw length-map c.loop-i-test.true) number));
    }

pub returns-clause-ok : goal.returns-clause-ok
returns-clause-ok c =
    let words = map (λ word. word.now) c.args.words.now in
    let count = length-map c.args.words.now (λ word. word.now) in
    let past : length words ≤ c.loop-i.i = omega (arith, count) in
    numbers_of-good words (λ k h. c.loop-i.invariant.good k (omega (arith, count, h)))
    ∙ ap (λ (l : List ℕ). Ok l) (sym (c.loop-i.invariant.read ∙ ap (filter_map number_of) (take_all c.loop-i.i words past)))
