use Rattle.std.proofs.Common.{◌≡◌}
use Rattle.lab_shell.proofs.ends_page.Explored.add_legs.Given as goal

-- the arrows stay
abbrev pub invariant-loop-pid : goal.invariant-loop-pid
invariant-loop-pid g l = l.worlds.edges ≡ l.fn.worlds.edges
