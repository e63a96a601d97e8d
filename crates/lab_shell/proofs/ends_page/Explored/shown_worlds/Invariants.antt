use Rattle.std.proofs.Common.{◌≡◌, map}
use Rattle.lab_shell.specs.Private.Shown.{edge_of}
use Rattle.lab_shell.proofs.ends_page.Explored.shown_worlds.Given as goal

-- the arrows stay
abbrev pub invariant-loop-node : goal.invariant-loop-node
invariant-loop-node g l = l.worlds.edges ≡ map edge_of l.picture.arrows.items
