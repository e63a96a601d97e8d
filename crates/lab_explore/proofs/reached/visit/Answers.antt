use Rattle.std.proofs.Common.{◌∙◌}
use Rattle.lab_explore.proofs.Explorations.{whole_visited}
use Rattle.lab_explore.proofs.JudgedSearches.{shows}
use Rattle.lab_explore.proofs.reached.visit.Goals as goal

pub returns : goal.returns
returns g c =
    let found = c.in_ok-visited.visited in
    let told = c.in_ok-visited.ensures in
    record {
      start = told.start ∙ c.processes-processes.ensures.world;
      reduced = told.reduced;
      visited = told.visited;
      whole = λ no. whole_visited found told.visited (told.reduced no);
      shown = λ is. shows found told.visited is;
    }
