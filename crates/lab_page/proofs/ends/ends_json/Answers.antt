use Rattle.std.proofs.Common.{ap, codes, ◌∙◌}
use Rattle.std.specs.Option.{option_map}
use Rattle.serde_json.specs.View.{view}
use Rattle.serde_json.specs.Written.{compact_text}
use Rattle.lab_moments.specs.Values.{or_null}
use Rattle.lab_page.specs.Asked.{asked_list}
use Rattle.lab_page.specs.Ends.{EndList, endless_shown, extent_data}
use Rattle.lab_page.specs.Worlds.{worlds_json}
use Rattle.lab_page.proofs.AskedLemmas.{asked-plain}
use Rattle.lab_page.proofs.JsonLemmas.{ends-parts}
use Rattle.lab_page.proofs.ends.ends_json.Goals as goal

pub push_behind-requires : goal.push_behind-requires
push_behind-requires c = record {
  plain = rw c.in_ok-asked_value.ensures.value (asked-plain c.args.found.now.asked.now);
}

pub returns : goal.returns
returns c =
    let found = c.args.found.now in
    record {
      json = rw (
        c.in_ok-extend_from_slice-6.ensures.items,
        c.in_ok-push_worlds.ensures.added,
        c.in_ok-extend_from_slice-5.ensures.items,
        c.in_ok-extend_from_slice-4.ensures.items,
        c.deref-2.ensures.value ∙ ap (λ (l : EndList). l.json) c.others.view_is,
        c.in_ok-extend_from_slice-3.ensures.items,
        c.in_ok-push_behind-4.ensures.added,
        c.in_ok-push_behind-3.ensures.added,
        c.in_ok-extent_value.ensures.value,
        c.in_ok-extend_from_slice-2.ensures.items,
        c.deref.ensures.value ∙ ap (λ (l : EndList). l.json) c.list.view_is,
        c.in_ok-extend_from_slice.ensures.items,
        c.in_ok-push_behind-2.ensures.added,
        c.in_ok-endless_value.ensures.value,
        c.in_ok-push_behind.ensures.added,
        c.in_ok-asked_value.ensures.value,
        c.new-json.ensures.items,
      )
          (ends-parts (codes "{\"asked\":") (compact_text (asked_list found.asked.now)) (codes ",\"endless\":")
          (compact_text (or_null (option_map endless_shown found.endless))) (codes ",\"ends\":[") found.ends.now.json (codes "],\"extent\":")
          (compact_text (extent_data found.extent)) (codes ",\"format\":\"lc3lab-ends-3\",\"processes\":")
          (compact_text (view c.args.processes.now)) (codes ",\"runs\":[") found.others.now.json (codes "],\"worlds\":")
          (worlds_json found.worlds.now) (codes "}"));
    }
