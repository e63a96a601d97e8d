use Rattle.std.proofs.Common.{rules, ◌≡◌, ◌∙◌, sym, ap, map, ◌++◌, ◌+◌, [], ◌∷◌}
use Rattle.std.proofs.lemmas.List.{map-append}
use Rattle.std.specs.Prelude.{◌||◌, is_some}
use Rattle.lc3_asm.specs.Texts.{is_origin}
use Rattle.lc3_asm.specs.Views.{seen_line}
use Rattle.lc3_asm.proofs.ReaderLemmas.{tables-more}
use Rattle.lc3_asm.proofs.reader.Reader.with.Goals as goal
use Rattle.lc3_asm.proofs.reader.Reader.with.Goals.{then-started, else-started}

pub invariant_of-result : goal.invariant_of-result
invariant_of-result c =
    let read : map seen_line c.self.inside.placed.lines.items ≡ c.args.self.read = ap (λ r. r.read) c.self.view_is in
    let lines_are : map seen_line c.push.new.self.lines.items ≡ c.args.self.read ++ seen_line c.args.line ∷ [] =
    ap (map seen_line) c.in_ok-push.ensures.lines ∙ map-append seen_line c.self.inside.placed.lines.items (c.args.line ∷ []) ∙ ap (λ u. u ++ seen_line c.args.line ∷ []) read in
    let started_is : c.if-started.started ≡ (c.self.inside.started || is_origin (seen_line c.args.line)) =
    elim c.if-started.branch [
      | then-started w ↦ w.started-is ∙ w.if-started.true ∙ sym (ap (λ b. b || is_origin (seen_line c.args.line)) w.if-started.true)
      | else-started w ↦ w.started-is ∙ w.is_some-started.ensures ∙ ap is_some w.origin.ensures.value ∙ sym (ap (λ b. b || is_origin (seen_line c.args.line)) w.if-started.false)
    ] in
    rw lines_are (tables-more c.self.inside.placed.symbols c.push.new.self.symbols c.self.inside.placed.places.items c.push.new.self.places.items c.self.inside.started c.if-started.started c.self.inside.first c.first_with-first.result c.self.inside.count (c.self.inside.count + c.size.result) (c.self.inside.first + c.self.inside.count) c.args.self.read (seen_line c.args.line)
    (rw read at c.self.invariant) c.requires.room (search rules) c.in_ok-push.ensures.symbols started_is c.first_with-first.ensures.value (search rules) c.in_ok-push.ensures.places)
