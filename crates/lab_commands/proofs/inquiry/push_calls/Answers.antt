use Rattle.std.proofs.Common.{Bor, List, ℕ, arith, refl}
use Rattle.lab_commands.specs.Asking.{IsSought, call_if}
use Rattle.lab_commands.proofs.AskedLemmas.{along_next, along_all}
use Rattle.lab_commands.proofs.inquiry.push_calls.Goals as goal

pub loop-word-preserved : goal.loop-word-preserved
loop-word-preserved c =
    let at = c.loop-word in
    λ before start. along_next IsSought (λ (word : Bor (List ℕ)). call_if c.args.never word.now) before c.args.words.now at.word-index _ _ at.calls.items c.push_call.new.calls.items
    c.loop-word-test.true refl (at.invariant before start) c.in_ok-push_call.ensures.sought

pub returns : goal.returns
returns c = record {
  sought = λ before start.
      along_all IsSought (λ (word : Bor (List ℕ)). call_if c.args.never word.now) before c.args.words.now c.loop-word.word-index c.loop-word.calls.items
      (omega (arith, c.loop-word-test.false)) (c.loop-word.invariant before start);
}
