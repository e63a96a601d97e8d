use Rattle.std.proofs.Common.{Bor, List, ℕ}
use Rattle.lab_commands.specs.Asking.{MayBe}
use Rattle.lab_commands.proofs.AskedLemmas.{along_map}
use Rattle.lab_commands.proofs.inquiry.waiters_of.Goals as goal

pub loop-word-preserved : goal.loop-word-preserved
loop-word-preserved c =
    along_map MayBe (λ (word : Bor (List ℕ)). word.now) c.args.words.now c.loop-word.word-index _ c.loop-word.waiters.items _ c.in_ok-waiter.waiter c.loop-word-test.true
    c.loop-word.invariant c.in_ok-waiter.ensures.waiter c.in_ok-push.ensures.items
