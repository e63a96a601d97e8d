use Rattle.std.proofs.Common.{◌≡◌}
use Rattle.lab_shell.proofs.ends_page.Explored.add_arrow_legs.Given as goal

-- the arrows stay
abbrev pub invariant-loop-at : goal.invariant-loop-at
invariant-loop-at g l = l.worlds.edges ≡ l.fn.worlds.edges
