use Rattle.std.proofs.Common.{rules, tests, ◌≡◌, ◌==◌, ◌||◌, ◌∙◌, ap, sym, refl, map, take, get_or, arith}
use Rattle.std.proofs.Math.Path.{fun_ext}
use Rattle.std.proofs.lemmas.List.{take_all}
use Rattle.std.proofs.lemmas.Iterator.Consumers.{map_from_collect}
use Rattle.std.proofs.lemmas.Iterator.Splits.{YieldsList-from_slice_split}
use Rattle.std.specs.List.{list_any}
use Rattle.lc3_table.specs.declared.operation.Fault.TheVariants as fault
use Rattle.lc3_table.specs.Tokens.{tokens}
use Rattle.lc3_asm.specs.declared.passes.LineFault.{LineFault}
use Rattle.lc3_asm.specs.Faults.{printable_or_blank}
use Rattle.lc3_asm.specs.Texts.{lines}
use Rattle.lc3_warnings.specs.Labels.{is_mention, mentions, faulty_line}
use Rattle.lc3_warnings.proofs.NameLemmas.{any-more}
use Rattle.lc3_warnings.proofs.walk.mentioned.Goals as goal

pub loop-fault-preserved : goal.loop-fault-preserved
loop-fault-preserved c = λ name.
    let text = lines c.args.text.now in
    let none : LineFault = record { line = 0; kind = fault.NoOrig } in
    let f = get_or c.args.faults.now c.loop-fault.fault-index none in
    let cut : map (λ line. line.now) c.in_ok-lines.lines.items ≡ text =
    rw c.in_ok-lines.was at (map_from_collect _ c.collect.ensures.ran (YieldsList-from_slice_split _ (λ b. b == 10) c.args.text.now c.split.ensures.rest c.split.ensures.done c.split.ensures.closure (λ x r q k. search (rules, tests)))) in
    let line : c.faulty_line.result.now ≡ faulty_line text f = search (rules, cut) in
    let shown : c.deref-in-loop-fault.result.now ≡ map printable_or_blank c.faulty_line.result.now = search rules in
    c.in_ok-add_tokens.ensures.added name
    ∙ ap (λ b. b || list_any (is_mention name) (tokens c.deref-in-loop-fault.result.now)) (c.loop-fault.invariant name)
    ∙ ap (λ l. list_any (mentions name) (map (faulty_line text) (take c.loop-fault.fault-index c.args.faults.now)) || list_any (is_mention name) (tokens l)) (shown ∙ ap (map printable_or_blank) line)
    ∙ sym (any-more (mentions name) (faulty_line text) c.args.faults.now c.loop-fault.fault-index none f c.loop-fault-test.true refl)

pub returns : goal.returns
returns c = record {
  all = rw (take_all c.loop-fault.fault-index c.args.faults.now (omega (arith, c.loop-fault-test.false))) at (fun_ext c.loop-fault.invariant);
}
