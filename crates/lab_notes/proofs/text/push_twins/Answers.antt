use Rattle.std.proofs.Common.{◌++◌, ap, ◌∙◌, codes, string_bytes}
use Rattle.lab_notes.specs.Texts.{opener_text, twins_text}
use Rattle.lab_notes.proofs.TextLemmas.{five-added}
use Rattle.lab_notes.proofs.text.push_twins.Goals as goal

pub returns : goal.returns
unfolding twins_text
returns c =
    let first = opener_text c.args.one.now in
    let second = opener_text c.args.other.now in
    let one = c.in_ok-push_opener.ensures.text ∙ ap (λ l. l ++ first) c.in_ok-push_str.ensures.bytes in
    let then = c.in_ok-push_str-2.ensures.bytes ∙ ap (λ l. l ++ codes ", only ") one in
    let other = c.in_ok-push_opener-2.ensures.text ∙ ap (λ l. l ++ second) then in
    let end = c.in_ok-push_str-3.ensures.bytes ∙ ap (λ l. l ++ codes ": is one name meant?") other in
    record { text = end ∙ five-added (string_bytes c.args.text.now) (codes "lc3lab: note: only ") first (codes ", only ") second (codes ": is one name meant?") }
