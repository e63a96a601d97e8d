use Rattle.std.proofs.Common.{arith}
use Rattle.std.proofs.lemmas.Bool.Decides.{nat_tests}
use Rattle.ipc_traps.proofs.Ranges.{words-four}
use Rattle.ipc_traps.proofs.reading.read_four.Goals as goal

pub returns : goal.returns
returns c =
    let four = words-four c.args.machine.now.process.memory c.args.at c.word.ensures.whole (grind (arith, nat_tests)) in
    let first = c.word.ensures.word in
    let second = c.word-2.ensures.word in
    let third = c.word-3.ensures.word in
    let fourth = c.word-4.ensures.word in
    record { words = cc }
