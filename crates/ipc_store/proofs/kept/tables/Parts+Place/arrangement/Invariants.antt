use Rattle.ipc_store.specs.Private.Renamings.{Permutes}
use Rattle.ipc_store.proofs.kept.tables.Parts+Place.arrangement.Given as goal

abbrev pub invariant-loop-at : goal.invariant-loop-at
invariant-loop-at l = Permutes l.arrangement.renaming
