use Rattle.std.proofs.Common.{◌≡◌, IsTrue, false, sym, ap, subst, ◌∙◌}
use Rattle.std.proofs.lemmas.Bool.{not-true}
use Rattle.lab_sched.specs.Starts.{AreStarts, initial_world}
use Rattle.lab_worlds.specs.Met.{IsCutShort}
use Rattle.lab_explore.specs.Private.Explored.{IsExplored}
use Rattle.lab_explore.proofs.Explorations.{asked_for}
use Rattle.lab_explore.proofs.exploring.explore.Goals as goal

pub into_report-requires : goal.into_report-requires
into_report-requires g c =
    let visited = c.in_ok-visited in
    let both : IsTrue visited.visited.reduced → IsTrue c.both-reduced.result = asked_for c.both-reduced.result visited.visited.reduced visited.ensures.reduced in (
      record { shared = c.type_bounds.sync-R.shared },
      (
        visited.ensures.visited,
        (λ is. c.keep_reduction.ensures.yes (c.both-reduced.ensures.first (both is)), λ is. not-true c.args.fair (c.both-reduced.ensures.second (both is))),
      ),
    )

pub by_fewest_calls-requires : goal.by_fewest_calls-requires
by_fewest_calls-requires g c =
    let first = c.in_ok-first in
    let same = sym first.ensures.processes in (
      record { shared = c.type_bounds.sync-R.shared },
      (
        subst AreStarts same c.in_ok-visited.ensures.visited.starts,
        (
          subst (λ ps. IsExplored (initial_world ps) c.args.nevers.now c.args.fair first.first.exploration) same first.ensures.explored,
          subst (λ ps. first.first.exploration.complete ≡ false → IsCutShort (initial_world ps) c.args.limits first.first.exploration) same first.ensures.met,
        ),
      ),
    )

pub returns : goal.returns
returns g c =
    let first = c.in_ok-first in
    let start = ap initial_world first.ensures.processes ∙ c.in_ok-visited.ensures.start in
    let told = subst (λ w. IsExplored w c.args.nevers.now c.args.fair c.in_ok-found.found) start c.in_ok-found.ensures.explored in
    record {
      sound = told.sound;
      ordered = told.ordered;
      complete = told.complete;
      fewest = told.fewest;
      free = told.free;
      reached = told.reached;
      unreached = told.unreached;
      lasso = told.lasso;
      repeats = told.repeats;
      endless = told.endless;
      bounded = told.bounded;
      fair = told.fair_asked;
      fair_lasso = told.fair_lasso;
      fairly_endless = told.fairly_endless;
      fairly_bounded = told.fairly_bounded;
      met = subst (λ w. c.in_ok-found.found.complete ≡ false → IsCutShort w c.args.limits c.in_ok-found.found) start c.in_ok-found.ensures.met;
    }
