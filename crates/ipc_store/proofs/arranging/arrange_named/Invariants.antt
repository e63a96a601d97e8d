use Rattle.ipc_store.specs.Private.Renamings.{Permutes}
use Rattle.ipc_store.proofs.arranging.arrange_named.Given as goal

abbrev pub invariant-loop : goal.invariant-loop
invariant-loop l = Permutes l.arrangement.renaming
