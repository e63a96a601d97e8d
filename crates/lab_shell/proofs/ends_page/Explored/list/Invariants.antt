use Rattle.std.proofs.Common.{◌≡◌}
use Rattle.lab_shell.specs.Private.Runs.{start_of, runs_to}
use Rattle.lab_shell.proofs.ends_page.Explored.list.Given as goal

-- the runs to the ends so far are added
abbrev pub invariant-loop-at : goal.invariant-loop-at
invariant-loop-at g l = l.list ≡ runs_to (start_of l.self.given) l.self.given.sources.items l.self.search.answers l.at
