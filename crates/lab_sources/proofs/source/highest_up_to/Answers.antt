use Rattle.std.proofs.Common.{◌≡◌, ◌+◌, ◌-◌, sym, ap, ◌∙◌, drop, rules, arith}
use Rattle.lab_sources.specs.Labels.{highest_up_to}
use Rattle.lab_sources.proofs.LabelLemmas.{highest_more, highest_none}
use Rattle.lab_sources.proofs.source.highest_up_to.Goals as goal

pub loop-left-init : goal.loop-left-init
loop-left-init c = record {
  label = highest_none c.args.address c.args.symbols.now ∙ ap (λ k. highest_up_to c.args.address (drop k c.args.symbols.now)) (sym c.len-left.ensures.count);
  within = search rules;
}

pub loop-left-preserved : goal.loop-left-preserved
loop-left-preserved c =
    let next : (c.loop-left.left - 1) + 1 ≡ c.loop-left.left = omega (arith, c.loop-left-test.true) in
    record {
      label = c.or_higher-highest.ensures.value ∙ highest_more c.args.address c.args.symbols.now (c.loop-left.left - 1) c.loop-left.left _ _ (search rules) next c.loop-left.invariant.label;
      within = omega (arith, c.loop-left.invariant.within);
    }
