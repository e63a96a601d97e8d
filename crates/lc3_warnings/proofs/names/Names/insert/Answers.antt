use Rattle.std.proofs.Common.{rules, ◌≡◌, ◌||◌, ◌∙◌, ap}
use Rattle.std.specs.Prelude.{bytes_eq, string_bytes}
use Rattle.std.proofs.lemmas.Map.Text.{hash_set_updates_text}
use Rattle.lc3_warnings.specs.Private.Names.{is_among}
use Rattle.lc3_warnings.proofs.NameLemmas.{among-more}
use Rattle.lc3_warnings.proofs.names.Names.insert.Goals as goal

pub returns : goal.returns
returns c = record {
  added = λ word.
      let old = c.self.inside.words in
      let value = c.in_ok-from_str.field-0 in
      let same : string_bytes value ≡ c.args.name.now = search rules in
      among-more (string_bytes value) word old c.insert.new.self
      (hash_set_updates_text (string_bytes value) old c.insert.new.self _ c.in_ok-insert.ensures.updates word)
      ∙ ap (λ names. is_among names word || bytes_eq word (string_bytes value)) c.self.view_is
      ∙ ap (λ name. is_among c.args.self.now word || bytes_eq word name) same;
}
