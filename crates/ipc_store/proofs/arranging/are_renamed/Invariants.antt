use Rattle.std.proofs.Common.{◌≡◌, take, map}
use Rattle.ipc_store.specs.Private.Renamings.{renamed_by}
use Rattle.ipc_store.proofs.arranging.are_renamed.Given as goal

abbrev pub invariant-loop-i : goal.invariant-loop-i
invariant-loop-i g l = take l.i l.others ≡ map (g.T.Refers.renamed (renamed_by l.to)) (take l.i l.helds)
