use Rattle.ipc_store.specs.Private.Renamings.{Permutes}
use Rattle.ipc_store.proofs.arranging.arrange_all.Given as goal

abbrev pub invariant-loop-held : goal.invariant-loop-held
invariant-loop-held g l = Permutes l.arrangement.renaming
