use Rattle.std.proofs.Common.{◌≡◌, arith}
use Rattle.ipc_traps.proofs.Ranges.{name-open, name-ends, name-full}
use Rattle.ipc_traps.proofs.reading.name_length.Goals as goal

pub returns-then-at-k-clause-name : goal.returns-then-at-k-clause-name
returns-then-at-k-clause-name c =
    name-open c.args.machine.now.process.memory c.args.at c.loop-k.k c.word.ensures.whole (omega arith) (omega arith) c.loop-k.invariant

pub returns-then-word-eq0-clause-name : goal.returns-then-word-eq0-clause-name
returns-then-word-eq0-clause-name c =
    name-ends c.args.machine.now.process.memory c.args.at c.loop-k.k c.word.ensures.whole (omega arith) (omega arith) c.loop-k.invariant (omega (arith, c.word-in-loop-k.ensures.word))

pub returns-clause-name : goal.returns-clause-name
returns-clause-name c =
    let all : c.loop-k.k ≡ 256 = omega arith in
    name-full c.args.machine.now.process.memory c.args.at c.word.ensures.whole (rw (← all) c.loop-k.invariant)
