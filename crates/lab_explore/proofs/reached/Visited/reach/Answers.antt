use Rattle.std.proofs.Common.{◌≡◌, IsTrue, None, subst}
use Rattle.std.proofs.lemmas.Result.{IfOk-weaker}
use Rattle.lab_conditions.specs.declared.never.Never.TheVariants.{Holds, Lost}
use Rattle.lab_explore.specs.Visits.{start_of}
use Rattle.lab_explore.specs.Private.Keeping.{KeepsReduction}
use Rattle.lab_explore.proofs.JudgedRows.{leads_to}
use Rattle.lab_explore.proofs.JudgedSearches.{holds_never, loses_never, refuses_never}
use Rattle.lab_explore.proofs.MetWorlds.{is_start}
use Rattle.lab_explore.proofs.reached.Visited.reach.Goals as goal

pub returns-in_default-clause-none : goal.returns-in_default-clause-none
returns-in_default-clause-none g c none whole =
    let asked : IsTrue c.args.self.now.reduced → KeepsReduction (Holds c.in-Holds.condition) = λ is. subst KeepsReduction c.in-Holds.is (c.requires.asked is) in
    rw c.in-Holds.is (holds_never c.args.self.now c.requires.visited whole c.in-Holds.condition asked (c.in_ok-at-in-Holds.ensures.none c.in_default.is))

pub returns-in_ok-walk-in-Holds-clause-reached : goal.returns-in_ok-walk-in-Holds-clause-reached
returns-in_ok-walk-in-Holds-clause-reached g c =
    let self = c.args.self.now in
    let walk = c.in_ok-walk-in-Holds in
    rw c.in-Holds.is
    (leads_to c.in-Holds.condition (start_of self) self.store c.in-Some.at walk.walk (is_start self.processes.items c.requires.visited.starts).consistent walk.ensures.walk walk.ensures.row
    (rw c.in-Some.is at c.in_ok-at-in-Holds.ensures.some))

pub returns-in_ok-turn-in-Lost : goal.returns-in_ok-turn-in-Lost
returns-in_ok-turn-in-Lost g c =
    let turn = c.in_ok-turn-in-Lost in
    let told = c.schedule_against.ensures in
    let asked : IsTrue c.args.self.now.reduced → KeepsReduction Lost = λ is. subst KeepsReduction c.in-Lost.is (c.requires.asked is) in
    record {
      reached = rw c.in-Lost.is (rw c.in-Lost.is at told.breaks);
      none = IfOk-weaker c.schedule_against.result (λ found. found ≡ None → turn.turn ≡ None) _
          (λ found h none whole. rw c.in-Lost.is (loses_never c.args.self.now c.requires.visited whole asked (turn.ensures.none (h none))))
          told.none;
    }

pub returns-in_ok-turn-in-Refused : goal.returns-in_ok-turn-in-Refused
returns-in_ok-turn-in-Refused g c =
    let turn = c.in_ok-turn-in-Refused in
    let told = c.schedule_against-in-Refused.ensures in
    record {
      reached = rw c.in-Refused.is (rw c.in-Refused.is at told.breaks);
      none = IfOk-weaker c.schedule_against-in-Refused.result (λ found. found ≡ None → turn.turn ≡ None) _
          (λ found h none whole. rw c.in-Refused.is (refuses_never c.args.self.now c.requires.visited whole c.in-Refused.refusal (turn.ensures.none (h none) whole)))
          told.none;
    }
