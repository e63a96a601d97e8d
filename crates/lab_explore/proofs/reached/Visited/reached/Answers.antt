use Rattle.std.proofs.Common.{subst, sym}
use Rattle.lab_worlds.specs.Reached.{ViolatesIfSome, KeptIfNone}
use Rattle.lab_explore.specs.Visits.{start_of}
use Rattle.lab_explore.specs.Private.Keeping.{KeepsReduction}
use Rattle.lab_explore.proofs.JudgedRows.{next_along, violates_if, kept_if}
use Rattle.lab_explore.proofs.reached.Visited.reached.Goals as goal

pub reach-requires : goal.reach-requires
reach-requires g c =
    let never = c.never-item.result in (
      record { shared = c.type_bounds.sync-R.shared },
      (
        c.requires.visited,
        λ is. subst KeepsReduction (sym c.never-item.is) (c.requires.asked is c.loop-never.never-index never c.loop-never-test.true),
      ),
    )

pub loop-never-preserved : goal.loop-never-preserved
loop-never-preserved g c =
    let start = start_of c.args.self.now in
    let ns = c.args.nevers.now in
    let n = c.loop-never.never-index in
    let found = c.loop-never.found.items in
    let more = c.push.new.self.items in
    let never = c.never-item.result in
    let schedule = c.in_ok-schedule.schedule in
    let told = c.in_ok-schedule.ensures in
    record {
      reached = next_along (ViolatesIfSome start) ns found more n never schedule c.loop-never.invariant.reached c.loop-never-test.true c.never-item.is (violates_if never start schedule told.reached) c.in_ok-push.ensures.items;
      none = λ is.
          next_along (KeptIfNone start) ns found more n never schedule (c.loop-never.invariant.none is) c.loop-never-test.true c.never-item.is (kept_if never start schedule (λ no. told.none no is))
          c.in_ok-push.ensures.items;
    }
