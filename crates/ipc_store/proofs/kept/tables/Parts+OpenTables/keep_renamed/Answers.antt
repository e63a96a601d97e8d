use Rattle.std.proofs.Common.{[], arith}
use Rattle.ipc_kernel.specs.Alike.{renamed_process}
use Rattle.ipc_store.specs.Private.Renamings.{renamed_by}
use Rattle.ipc_store.proofs.NumberLemmas.{made_more}
use Rattle.ipc_store.proofs.kept.tables.Parts+OpenTables.keep_renamed.Goals as goal

pub loop-number-preserved : goal.loop-number-preserved
loop-number-preserved c = (
  rw c.in_ok-push.ensures.items (made_more (renamed_process (renamed_by c.args.to.now)) c.args.self.now c.loop-number.self c.keep_process_renamed.new.self
      c.args.numbers.now c.loop-number.kept.items c.loop-number.number-index c.in-Some.renamed _ (record { descriptors = []; slots = [] })
      c.loop-number.invariant.1 c.keep_process_renamed.ensures.grows c.loop-number-test.true (omega (arith, c.if-number-count.false, c.len-count.ensures.count)) c.loop-number.invariant.0
      (rw c.in-Some.is at c.in_ok-renamed.ensures.renamed)),
  λ i x e. c.keep_process_renamed.ensures.grows i x (c.loop-number.invariant.1 i x e),
)
