use Rattle.std.proofs.Common.{ℕ, List, IsTrue, length, refl}
use Rattle.std.proofs.lemmas.Bool.{false_from_ne_true}
use Rattle.lab_sched.specs.Worlds.{run, entries}
use Rattle.lab_worlds.specs.Closed.{AreAtRest}
use Rattle.lab_worlds.specs.Ends.{HaveAllEnds}
use Rattle.lab_worlds.proofs.FairLassos.{some_fairly_endless}
use Rattle.lab_explore.specs.Visits.{start_of, IsWhole}
use Rattle.lab_explore.proofs.Cycles.{some_repeats, some_endless}
use Rattle.lab_explore.proofs.Explorations.{IsReachedIn, whole_visited, all_ends, bounded_in, never_stuck}
use Rattle.lab_explore.proofs.FairSegments.{ranked_bounded}
use Rattle.lab_explore.proofs.MetWorlds.{is_start}
use Rattle.lab_explore.proofs.reached.Visited.report.Goals as goal

pub returns : goal.returns
returns g c =
    let self = c.args.self.now in
    let start = start_of self in
    let is = is_start self.processes.items c.requires.visited.starts in
    let ends = c.in_ok-ends.field-0.ends.items in
    let lasso = c.in_ok-lasso.field-0.lasso in
    let told = c.in_ok-lasso.ensures in
    let whole = c.both-2.ensures in
    let all : IsTrue c.both-2.result → (ps : List ℕ) → AreAtRest (run start ps) → IsReachedIn ends (run start ps) (length (entries start ps)) =
    λ yes. all_ends self.reduced start self.store ends is c.in_ok-ends.ensures.ends (c.requires.visited.searched (whole.first yes)) (c.in_ok-ends.ensures.all (c.both.ensures.first (whole.second yes)) (whole.first yes)) in
    let steps : IsTrue c.args.fair → IsWhole self = λ fair. whole_visited self c.requires.visited (false_from_ne_true self.reduced (λ is. let no = c.requires.fair is in absurd (cc))) in
    let reported : IsTrue c.both-2.result → HaveAllEnds start ends = λ yes ps rest. let end = all yes ps rest in (end.0, end.1, end.2, end.3, end.4) in
    record {
      explored = record {
        sound = c.in_ok-ends.ensures.ends;
        ordered = c.in_ok-ends.ensures.ordered;
        complete = reported;
        fewest = λ yes ps rest. let end = all yes ps rest in (end.0, end.1, end.2, end.3, end.5);
        free = λ yes. never_stuck start ends (reported yes);
        reached = c.in_ok-reached.ensures.reached;
        unreached = λ yes. c.in_ok-reached.ensures.none (whole.first yes);
        lasso = told.lasso;
        repeats = some_repeats start lasso is.consistent told.lasso;
        endless = some_endless start lasso is.consistent told.lasso;
        bounded = λ no yes none. bounded_in self.reduced start self.store is (c.requires.visited.searched (whole.first yes)) (told.none no none);
        fair_asked = refl;
        fair_lasso = told.fair_lasso;
        fairly_endless = λ fair. some_fairly_endless start lasso is.consistent (told.fair_lasso fair);
        fairly_bounded = λ fair yes none. ranked_bounded self.store start is ((steps fair).searched (whole.first yes)) (told.no_fair_lasso fair (c.both.ensures.second (whole.second yes)) none);
      };
    }
