use Rattle.std.proofs.Common.{take}
use Rattle.lab_worlds.specs.Calls.{Alongside}
use Rattle.lab_pictures.specs.Private.Drawn.{IsArrowOf}
use Rattle.lab_pictures.proofs.picture.arrows.Given as goal

abbrev pub invariant-loop-at : goal.invariant-loop-at
invariant-loop-at l = Alongside (IsArrowOf l.visited.store) (take l.at l.visited.store.edges) l.arrows.items
