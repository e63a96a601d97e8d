use Rattle.std.proofs.Common.{arith}
use Rattle.lab_commands.specs.Asking.{IsAsked}
use Rattle.lab_commands.proofs.AskedLemmas.{asked_with, asked_next, asked_all}
use Rattle.lab_commands.proofs.inquiry.nevers_of.Goals as goal

pub loop-word-preserved : goal.loop-word-preserved
loop-word-preserved c =
    asked_next IsAsked asked_with c.loop-word.nevers.items c.in_ok-push_nevers.ensures.more.0 c.push_nevers.new.nevers.items c.args.words.now c.loop-word.word-index _ c.loop-word-test.true
    c.in_ok-push_nevers.ensures.more.1 c.loop-word.invariant c.in_ok-push_nevers.ensures.written

pub returns : goal.returns
returns c = record { each = asked_all (IsAsked c.loop-word.nevers.items) c.args.words.now c.loop-word.word-index (omega (arith, c.loop-word-test.false)) c.loop-word.invariant }
