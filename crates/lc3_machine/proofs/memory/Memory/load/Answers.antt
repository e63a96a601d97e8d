use Rattle.std.proofs.Common.{sym, ◌∙◌, refl, rules}
use Rattle.std.proofs.lemmas.List.{take_all}
use Rattle.lc3_machine.specs.Process.{zeros, memory_of}
use Rattle.lc3_machine.proofs.MemoryLemmas.{length-zeros, written-none, written-more, written-zeros}
use Rattle.lc3_machine.proofs.PageLemmas.{joined-absent}
use Rattle.lc3_machine.proofs.memory.Memory.load.Goals as goal

pub loop-k-init : goal.loop-k-init
loop-k-init c = joined-absent c.in_ok-pages.pages 256 c.in_ok-pages.ensures.absent refl ∙ sym (written-none (zeros 65536) c.args.origin)

pub loop-k-preserved : goal.loop-k-preserved
loop-k-preserved c = search (rules, length-zeros, written-more)

pub returns : goal.returns
unfolding memory_of
returns c = search (rules, take_all, written-zeros)
