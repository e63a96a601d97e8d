use Rattle.std.proofs.Common.{[], ◌∷◌, ap, cond, sym}
use Rattle.lab_commands.specs.Asking.{IsRequired, output_if}
use Rattle.lab_commands.proofs.AskedLemmas.{along_same, along_with}
use Rattle.lab_commands.proofs.inquiry.push_need.Goals as goal

pub returns-then-is_of_calls : goal.returns-then-is_of_calls
returns-then-is_of_calls c = record {
  need = λ before along.
      let word = c.args.word.now in
      along_same IsRequired before (output_if word) c.args.needs.now.items (ap (λ b. cond b [] (word ∷ [])) (sym c.if-is_of_calls.ensures.value)) along;
}

pub returns : goal.returns
returns c = record {
  need = λ before along.
      let word = c.args.word.now in
      along_with IsRequired before (output_if word) c.args.needs.now.items _ word _ (ap (λ b. cond b [] (word ∷ [])) (sym c.if-is_of_calls.ensures.value))
      c.in_ok-push.ensures.items c.in_ok-need.ensures.need along;
}
