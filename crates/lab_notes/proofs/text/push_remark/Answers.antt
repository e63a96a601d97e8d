use Rattle.std.proofs.Common.{◌++◌, ap, ◌∙◌, codes, string_bytes}
use Rattle.lab_notes.specs.Texts.{call_text, change_text, remark_text}
use Rattle.lab_notes.proofs.TextLemmas.{six-added}
use Rattle.lab_notes.proofs.text.push_remark.Goals as goal

pub returns : goal.returns
unfolding remark_text
returns c =
    let remark = c.args.remark.now in
    let named = c.in_ok-push_str-2.ensures.bytes ∙ ap (λ l. string_bytes c.push_str.new.self ++ l) c.as_str.ensures.text
    ∙ ap (λ l. l ++ remark.name) c.in_ok-push_str.ensures.bytes in
    let change = c.in_ok-push_change.ensures.text ∙ ap (λ l. l ++ change_text remark.change) named in
    let begun = c.in_ok-push_str-3.ensures.bytes ∙ ap (λ l. l ++ codes " (") change in
    let call = c.in_ok-push_call.ensures.text ∙ ap (λ l. l ++ call_text remark c.args.place.now) begun in
    let end = c.in_ok-push_str-4.ensures.bytes ∙ ap (λ l. l ++ codes ")") call in
    record {
      text = end ∙ six-added (string_bytes c.args.text.now) (codes "lc3lab: note: ") remark.name (change_text remark.change) (codes " (")
          (call_text remark c.args.place.now) (codes ")");
    }
