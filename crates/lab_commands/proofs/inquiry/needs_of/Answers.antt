use Rattle.std.proofs.Common.{[], Bor, List, ℕ, arith, refl}
use Rattle.lab_commands.specs.Asking.{IsRequired, output_if}
use Rattle.lab_commands.proofs.AskedLemmas.{along_next, along_all}
use Rattle.lab_commands.proofs.inquiry.needs_of.Goals as goal

pub loop-word-preserved : goal.loop-word-preserved
loop-word-preserved c =
    along_next IsRequired (λ (word : Bor (List ℕ)). output_if word.now) [] c.args.words.now c.loop-word.word-index _ _ c.loop-word.needs.items c.push_need.new.needs.items
    c.loop-word-test.true refl c.loop-word.invariant c.in_ok-push_need.ensures.need

pub returns : goal.returns
returns c = record {
  needs = along_all IsRequired (λ (word : Bor (List ℕ)). output_if word.now) [] c.args.words.now c.loop-word.word-index c.loop-word.needs.items
      (omega (arith, c.loop-word-test.false)) c.loop-word.invariant;
}
