use Rattle.std.proofs.Common.{◌≡◌, ℕ, Option, List, IfOk, sym, ap, subst, ◌∙◌}
use Rattle.std.specs.Prelude.{position, string_bytes}
use Rattle.std.specs.Option.{option_map}
use Rattle.serde_json.specs.View.{view}
use Rattle.lab_page.specs.Sources.{has_text, source_told, source_shown}
use Rattle.lab_page.proofs.SourceLemmas.{first-shown}
use Rattle.lab_page.proofs.source.source_behind.Goals as goal

pub returns : goal.returns
returns c =
    let first = c.first_with-first.ensures.process
    ∙ ap (λ (t : List ℕ). position (λ s. has_text t (option_map source_shown s)) c.args.sources.now) c.as_str.ensures.value
    ∙ sym (first-shown (string_bytes c.args.source.now.text) c.args.sources.now) in
    record {
      value = subst (λ (o : Option ℕ). IfOk c.source_told.result (λ v. view v ≡ source_told c.args.process (source_shown c.args.source.now) o)) first
          c.source_told.ensures.value;
    }
