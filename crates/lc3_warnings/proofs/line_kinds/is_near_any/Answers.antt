use Rattle.std.proofs.Common.{◌∙◌}
use Rattle.lc3_warnings.proofs.NameLemmas.{near_any}
use Rattle.lc3_warnings.proofs.line_kinds.is_near_any.Goals as goal

pub returns : goal.returns
returns c = record {
  value = c.is_some.ensures ∙ near_any (λ name. name.now) c.args.name.now c.args.others.now c.in_ok-found.found c.in_ok-found.ensures.nearest;
}
