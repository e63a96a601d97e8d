use Rattle.std.proofs.Common.{◌∙◌, ap}
use Rattle.lc3_warnings.specs.Private.Names.{is_among}
use Rattle.lc3_warnings.proofs.NameLemmas.{among-kept}
use Rattle.lc3_warnings.proofs.names.Names.contains.Goals as goal

pub returns : goal.returns
returns c = record {
  value =
      c.contains.ensures
      ∙ among-kept c.args.name.now c.self.inside.words.keys
      ∙ ap (λ names. is_among names c.args.name.now) c.self.view_is;
}
