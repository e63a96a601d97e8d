use Rattle.std.proofs.Common.{◌∙◌, sym, rules, tests}
use Rattle.std.specs.Prelude.{bytes_eq}
use Rattle.std.proofs.lemmas.Iterator.{YieldsList-from_slice}
use Rattle.std.proofs.lemmas.Iterator.Search.{any_from_yields_List}
use Rattle.lc3_warnings.proofs.NameLemmas.{list_any_map}
use Rattle.lc3_messages.proofs.source.is_among.Goals as goal

pub returns : goal.returns
returns c =
    let name = c.args.name.now in
    let names = c.args.names.now in
    record {
      value =
          any_from_yields_List (λ other. bytes_eq name other.now) _ _ _ c.any.ensures.ran (YieldsList-from_slice names cc) (λ x b q k. search (rules, tests))
          ∙ sym (list_any_map (bytes_eq name) (λ other. other.now) names);
    }
