use Rattle.std.proofs.Common.{◌∙◌, sym, rules, tests}
use Rattle.std.proofs.lemmas.Iterator.{YieldsList-from_slice}
use Rattle.std.proofs.lemmas.Iterator.Search.{all_from_yields_List}
use Rattle.serde_json.specs.View.{view}
use Rattle.lab_server.proofs.ValueLemmas.{list_all_map}
use Rattle.std.specs.Prelude.{map}
use Rattle.lab_server.specs.Settings.{is_name}
use Rattle.lab_server.proofs.settings.are_names.Goals as goal

pub returns : goal.returns
returns c =
    let names = map (λ name. name.now) c.args.names.now in
    let values = c.args.values.now in
    record {
      value =
          all_from_yields_List (λ v. is_name names (view v)) _ _ _ c.all.ensures.ran (YieldsList-from_slice values cc) (λ x b q k. search (rules, tests))
          ∙ sym (list_all_map (is_name names) view values);
    }
