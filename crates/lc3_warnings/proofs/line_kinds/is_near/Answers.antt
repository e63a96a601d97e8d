use Rattle.std.proofs.Common.{◌∙◌}
use Rattle.lc3_warnings.proofs.NameLemmas.{near_bare}
use Rattle.lc3_warnings.proofs.line_kinds.is_near.Goals as goal

pub returns : goal.returns
returns c = record {
  value = c.in_ok-near.ensures.value ∙ near_bare c.args.name.now;
}
