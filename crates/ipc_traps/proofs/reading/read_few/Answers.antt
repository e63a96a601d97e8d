use Rattle.std.proofs.Common.{◌∷◌, [], ◌++◌, ◌∙◌, ap, sym, take, arith}
use Rattle.std.proofs.lemmas.Bool.Decides.{nat_tests}
use Rattle.lc3_machine.specs.Console.{words_from}
use Rattle.ipc_traps.proofs.Ranges.{words-more}
use Rattle.ipc_traps.proofs.reading.read_few.Goals as goal

pub loop-k-preserved : goal.loop-k-preserved
loop-k-preserved c =
    let memory = c.args.machine.now.process.memory in
    c.push.ensures.words
    ∙ ap (λ ws. ws ++ c.word.result ∷ []) c.loop-k.invariant
    ∙ ap (λ w. take c.loop-k.k (words_from memory c.args.at) ++ w ∷ []) c.word.ensures.word
    ∙ sym (words-more memory c.args.at c.loop-k.k c.word.ensures.whole (grind (arith, nat_tests)))
