use Rattle.std.proofs.Common.{◌++◌, ap, ◌∙◌, sym, map, append_assoc}
use Rattle.lab_places.specs.Placed.{placed_line}
use Rattle.lab_places.specs.Private.Standings.{more_lines}
use Rattle.lab_places.proofs.PlacedLemmas.{joined}
use Rattle.lab_places.proofs.placing.push_lines.Goals as goal

-- the first line, and then the others
pub returns : goal.returns
returns c =
    let sources = c.args.sources.now in
    let before = c.args.bytes.now.items in
    let first = c.in-Some.first.now.now in
    let more = map (λ line. line.now) c.in-Some.more.now in
    let cut = ap (map (λ line. line.now)) c.in-Some.ensures.cases.0 in
    record {
      added = c.in_ok-push_more.ensures.added
          ∙ ap (λ bytes. bytes ++ more_lines sources more) c.in_ok-push_line.ensures.added
          ∙ append_assoc before (placed_line sources first) (more_lines sources more)
          ∙ ap (λ lines. before ++ lines) (sym (joined (placed_line sources) _ first more cut));
    }
