use Rattle.std.proofs.Common.{[], ◌∷◌, ap, cond, sym, rules}
use Rattle.lab_commands.specs.Asking.{IsSought, call_if}
use Rattle.lab_commands.proofs.AskedLemmas.{along_with}
use Rattle.lab_commands.proofs.inquiry.push_call.Goals as goal

pub returns : goal.returns
returns c = record {
  sought = λ before along.
      let never = c.args.never in
      let word = c.args.word.now in
      along_with IsSought before (call_if never word) c.args.calls.now.items _ (never, word) _ (ap (λ b. cond b ((never, word) ∷ []) []) (sym c.if-not-is_of_calls.ensures.value))
      c.in_ok-push.ensures.items (search rules, c.in_ok-wanted.ensures.asks) along;
}
