use Rattle.std.proofs.Common.{rules, ◌≡◌, ◌++◌, ◌∷◌, [], map, take, drop, ap, sym, ◌∙◌, append-nil, arith}
use Rattle.std.proofs.lemmas.List.{drop_all}
use Rattle.lc3_asm.specs.Texts.{lines}
use Rattle.lc3_asm.specs.Views.{lines_if, seen_line}
use Rattle.lc3_warnings.specs.Private.Settings.{seen_setting}
use Rattle.lc3_warnings.specs.Warnings.{lines_told}
use Rattle.lc3_warnings.proofs.WalkLemmas.{rest-more, rest-none, lines-none, previous-more, lines-more}
use Rattle.lc3_warnings.proofs.walk.push_lines.Goals as goal

pub returns-in_default-clause-rest : goal.returns-in_default-clause-rest
returns-in_default-clause-rest c =
    let none : [] ≡ drop c.loop-i.i (lines c.args.text.now) = search rules in
    rest-none (lines c.args.text.now) c.loop-i.i _ none (omega (arith, c.loop-i-test.true))

pub loop-i-preserved : goal.loop-i-preserved
loop-i-preserved c =
    let read = c.args.read.now in
    let bytes = c.first_line.result.0.now in
    let rest = lines_if c.first_line.result.1 in
    let cut : lines_if c.loop-i.rest ≡ bytes ∷ rest = search rules in
    let told = c.in_ok-push_line.ensures.told in (
      rest-more (lines c.args.text.now) c.loop-i.i bytes rest (sym c.loop-i.invariant.0 ∙ cut),
      previous-more read c.loop-i.i _ c.index-read-i.result c.loop-i-test.true c.index-read-i.is c.loop-i.previous c.or-previous.result c.flow_of-here.result
          c.loop-i.invariant.1 c.flow_of-here.ensures.value c.or-previous.ensures,
      c.next_behind-next.ensures.value,
      lines-more read c.loop-i.i _ c.index-read-i.result c.loop-i-test.true c.index-read-i.is (seen_setting c.args.setting.now) bytes rest
          c.loop-i.found.items c.push_line.new.found.items _ c.loop-i.previous c.flow_of-here.result c.next_behind-next.result
          c.loop-i.invariant.1 c.flow_of-here.ensures.value c.next_behind-next.ensures.value told
          (ap (λ u. c.loop-i.found.items ++ lines_told (seen_setting c.args.setting.now) (map seen_line (take c.loop-i.i read)) u (map seen_line (drop c.loop-i.i read))) (sym cut)
          ∙ c.loop-i.invariant.3),
    )

pub returns-clause-told : goal.returns-clause-told
returns-clause-told c =
    let found = c.loop-i.found.items in
    let before = map seen_line (take c.loop-i.i c.args.read.now) in
    sym (append-nil found)
    ∙ ap (λ u. found ++ u) (sym (lines-none (seen_setting c.args.setting.now) before (lines_if c.loop-i.rest)))
    ∙ ap (λ u. found ++ lines_told (seen_setting c.args.setting.now) before (lines_if c.loop-i.rest) (map seen_line u)) (sym (drop_all c.loop-i.i c.args.read.now (omega (arith, c.loop-i-test.false))))
    ∙ c.loop-i.invariant.3
