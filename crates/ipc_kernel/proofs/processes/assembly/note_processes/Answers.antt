use Rattle.std.proofs.Common.{arith, refl, []}
use Rattle.std.proofs.lemmas.List.{take_all}
use Rattle.std.proofs.lemmas.List.Elements.{All-more}
use Rattle.std.proofs.lemmas.List.Sums.{sum_by_more}
use Rattle.ipc_kernel.specs.declared.process.OpenTables.{OpenTables}
use Rattle.ipc_kernel.specs.Private.Counts.{references_in, HasFullTables}
use Rattle.ipc_kernel.proofs.processes.assembly.note_processes.Goals as goal

pub loop-process-preserved : goal.loop-process-preserved
loop-process-preserved c =
    let ps = c.args.processes.now in
    let i = c.loop-process.process-index in
    let nobody : OpenTables = record { descriptors = []; slots = [] } in (
      λ k. omega (arith, sum_by_more (references_in k) ps i nobody c.loop-process-test.true, c.if-not-note_process.ensures.counted refl k, c.loop-process.invariant.0 k),
      All-more HasFullTables ps i nobody c.loop-process-test.true c.loop-process.invariant.1 c.note_process.ensures.full,
    )

pub returns-clause-full : goal.returns-clause-full
returns-clause-full c = λ _. rw (take_all c.loop-process.process-index c.args.processes.now c.loop-process-test.false) at c.loop-process.invariant.1
