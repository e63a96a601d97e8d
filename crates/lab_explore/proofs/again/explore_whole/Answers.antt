use Rattle.std.proofs.Common.{refl, subst}
use Rattle.lab_explore.specs.Private.Explored.{IsExplored}
use Rattle.lab_explore.proofs.again.explore_whole.Goals as goal

pub report_whole-report-requires : goal.report_whole-report-requires
report_whole-report-requires g c =
    let told = c.in_ok-visited.ensures in
    let off = told.reduced refl in
    (record { shared = c.type_bounds.sync-R.shared }, (told.visited, (λ is. absurd (cc), λ is. absurd (cc))))

pub returns : goal.returns
returns g c = record { explored = subst (λ w. IsExplored w c.args.nevers.now c.args.fair c.in_ok-report.field-0) c.in_ok-visited.ensures.start c.in_ok-report.ensures.explored }
