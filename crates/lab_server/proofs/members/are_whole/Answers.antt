use Rattle.std.proofs.Common.{◌∙◌, sym, rules, tests, is_some}
use Rattle.std.proofs.lemmas.Iterator.{YieldsList-from_slice}
use Rattle.std.proofs.lemmas.Iterator.Search.{all_from_yields_List}
use Rattle.serde_json.specs.View.{view}
use Rattle.lab_server.proofs.ValueLemmas.{list_all_map}
use Rattle.lab_server.specs.Members.{whole_text}
use Rattle.lab_server.proofs.members.are_whole.Goals as goal

pub returns : goal.returns
returns c =
    let changes = c.args.changes.now in
    record {
      value =
          all_from_yields_List (λ v. is_some (whole_text (view v))) _ _ _ c.all.ensures.ran (YieldsList-from_slice changes cc) (λ x b q k. search (rules, tests))
          ∙ sym (list_all_map (λ d. is_some (whole_text d)) view changes);
    }
