use Rattle.std.proofs.Common.{◌≡◌, ◌≤◌, ◌∙◌, ◌+◌, None, Some, ap, length, slice_get, sym}
use Rattle.std.proofs.Output.{has_written_of_eq}
use Rattle.std.proofs.lemmas.Option.{MatchOption-at_none, slice_get_past}
use Rattle.lab_worlds.proofs.Pushes.{got}
use Rattle.lab_questions.specs.Findings.{end_or_null}
use Rattle.lab_questions.proofs.ListLemmas.{none_unless}
use Rattle.lab_questions.proofs.ValueLemmas.{end_at, end_written}
use Rattle.lab_questions.proofs.json.ends.EndsValues.write.Goals as goal

pub returns-in_default : goal.returns-in_default
returns-in_default g c =
    let a = c.args.self.now.0.answers.now in
    let ends = c.deref.result.now in
    let number = c.index.result.now in
    let past : length ends ≤ number = MatchOption-at_none _ _ (none_unless c.get.result c.in_default.not-Some) c.get.ensures.lookup.3 in
    let none : slice_get a.exploration.ends.items number ≡ None = ap (λ es. slice_get es number) (sym c.deref.ensures.value) ∙ slice_get_past ends number past in
    record {
      value = λ plain ok. has_written_of_eq _ _ _ _ _
          (sym (end_at a.show a.exploration.ends.items a.told.items c.args.place number c.requires.there c.index.ensures
          ∙ ap (end_or_null a.show (c.args.place + 1)) none)) (c.write.ensures.writes plain ok);
    }

pub returns : goal.returns
returns g c =
    let a = c.args.self.now.0.answers.now in
    let number = c.index.result.now in
    let end = c.in-Some.end.now in
    let found = c.in-Some.ensures.lookup.3 in
    let there : slice_get a.exploration.ends.items number ≡ Some end = got c.deref.result.now a.exploration.ends.items number end c.deref.ensures.value found.0 (found.1 end) in
    record {
      value = λ plain ok. has_written_of_eq _ _ _ _ _
          (end_written a.show (c.args.place + 1) end c.word-verdict.result.now c.kernel.result.now c.blocks-2.result.now c.word-verdict.ensures.word c.kernel.ensures.kernel c.blocks-2.ensures.value
          ∙ sym (end_at a.show a.exploration.ends.items a.told.items c.args.place number c.requires.there c.index.ensures
          ∙ ap (end_or_null a.show (c.args.place + 1)) there)) (c.write-2.ensures.writes plain ok);
    }
