use Rattle.std.proofs.Common.{◌≡◌, ◌∙◌, ap, map, drop, arith}
use Rattle.std.proofs.Math.Path.{fun_ext}
use Rattle.lc3_asm.specs.Views.{seen_line}
use Rattle.lc3_warnings.specs.Strings.{strings}
use Rattle.lc3_warnings.proofs.StringLemmas.{begins-more, strings-more}
use Rattle.lc3_warnings.proofs.codes.strings.Goals as goal

pub loop-i-preserved : goal.loop-i-preserved
loop-i-preserved c =
    let read = c.args.lines.now in
    let was = c.loop-i.invariant.0 in
    let now = c.is_string_from-is_string.ensures.value in (
      begins-more read c.loop-i.i _ _ (omega (arith, c.loop-i-test.true)) c.loop-i.auto.i c.index-lines-i.is _ _ was now,
      λ name. strings-more read c.loop-i.i _ _ (omega (arith, c.loop-i-test.true)) c.loop-i.auto.i c.index-lines-i.is _ _ _ _ name was now
          (c.loop-i.invariant.1 name) (c.in_ok-add_label.ensures.added name),
    )

pub returns : goal.returns
returns c = record {
  all = fun_ext (λ name.
      let first : c.loop-i.i ≡ 0 = omega (arith, c.loop-i-test.false) in
      c.loop-i.invariant.1 name ∙ ap (λ i. strings (map seen_line (drop i c.args.lines.now)) name) first);
}
