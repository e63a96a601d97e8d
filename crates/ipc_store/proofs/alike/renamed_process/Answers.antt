use Rattle.std.proofs.Common.{◌≡◌, None, length, arith, rules}
use Rattle.std.specs.Option.{option_map}
use Rattle.ipc_kernel.specs.Alike.{renamed_descriptor, renamed_slot}
use Rattle.ipc_store.specs.Private.Renamings.{renamed_by}
use Rattle.ipc_store.proofs.Renamings.{tables, renamed_more, renamed_all}
use Rattle.ipc_store.proofs.alike.renamed_process.Goals as goal
use Rattle.std.proofs.lemmas.Grind.{common_steps}

pub loop-at-preserved : goal.loop-at-preserved
loop-at-preserved c =
    let to = renamed_by c.args.to.now in
    let p = c.args.process.now in
    let descriptors : length p.descriptors ≡ 16 = search rules in
    let slots : length p.slots ≡ 16 = search rules in (
      λ _. (descriptors, slots),
      rw c.renamed_descriptor.ensures.renamed (renamed_more (option_map (renamed_descriptor to)) p.descriptors c.loop-at.renamed.descriptors c.loop-at.at None (omega arith) c.loop-at.invariant.1),
      rw c.renamed_slot.ensures.renamed (renamed_more (option_map (renamed_slot to)) p.slots c.loop-at.renamed.slots c.loop-at.at None (omega arith) c.loop-at.invariant.2),
    )

pub returns : goal.returns
returns c = grind (arith, common_steps, tables, renamed_all)
