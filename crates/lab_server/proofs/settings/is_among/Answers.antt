use Rattle.std.proofs.Common.{◌∙◌, sym, rules, tests}
use Rattle.std.proofs.lemmas.Iterator.{YieldsList-from_slice}
use Rattle.std.proofs.lemmas.Iterator.Search.{any_from_yields_List}
use Rattle.lab_server.proofs.ValueLemmas.{list_any_map}
use Rattle.std.specs.Prelude.{bytes_eq}
use Rattle.lab_server.proofs.settings.is_among.Goals as goal

pub returns : goal.returns
returns c =
    let word = c.args.word.now in
    let names = c.args.names.now in
    record {
      value =
          any_from_yields_List (λ name. bytes_eq word name.now) _ _ _ c.any.ensures.ran (YieldsList-from_slice names cc) (λ x b q k. search (rules, tests))
          ∙ sym (list_any_map (bytes_eq word) (λ name. name.now) names);
    }
