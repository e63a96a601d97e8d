use Rattle.std.proofs.Common.{◌∙◌, sym, rules, tests, Some}
use Rattle.std.proofs.lemmas.Iterator.{YieldsList-from_slice}
use Rattle.std.proofs.lemmas.Iterator.Search.{any_from_yields_List}
use Rattle.serde_json.specs.View.{view}
use Rattle.lab_server.proofs.ValueLemmas.{list_any_map}
use Rattle.lab_server.specs.Messages.{is_text}
use Rattle.lab_server.specs.Settings.{has_name}
use Rattle.lab_server.proofs.settings.has_name.Goals as goal

pub returns : goal.returns
unfolding has_name
returns c =
    let name = c.args.name.now in
    let values = c.args.values.now in
    record {
      value =
          any_from_yields_List (λ v. is_text (Some (view v)) name) _ _ _ c.any.ensures.ran (YieldsList-from_slice values cc) (λ x b q k. search (rules, tests))
          ∙ sym (list_any_map (λ d. is_text (Some d) name) view values);
    }
