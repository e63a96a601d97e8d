-- Explorations: what the parts of one say together.
use Rattle.std.proofs.Common.{ℕ, Bool, true, false, All, arith, count_by, ◌≡◌, ◌≤◌, ◌+◌, ◌++◌, [], ◌∷◌, slice_get, List, Option, Some, refl, sym, ap, subst, ◌∙◌, length}
use Rattle.ipc_kernel.specs.Alike.{IsConsistent}
use Rattle.lab_worlds.specs.Calls.{AreAlike}
use Rattle.lab_worlds.proofs.AlikeWorlds.{world_then, world_back, one_verdict, consistent_run}
use Rattle.lab_sched.specs.Worlds.{Process, Waiting, WorldState, run, entries}
use Rattle.lab_sched.specs.Schedules.{steps_of}
use Rattle.lab_sched.specs.Verdicts.{IsVerdict, IsWaiting, HasEnded, AreStuck, is_waiting}
use Rattle.lab_sched.specs.declared.verdict.Verdict.{Verdict}
use Rattle.lab_sched.specs.declared.verdict.Verdict.TheVariants as verdict
use Rattle.lab_search.specs.declared.store.Store.{Store}
use Rattle.lab_conditions.specs.declared.never.Never.{Never}
use Rattle.lab_worlds.specs.declared.ends.End.{End}
use Rattle.lab_worlds.specs.declared.exploration.Exploration.{Exploration}
use Rattle.lab_worlds.specs.declared.exploration.Met.{Met}
use Rattle.lab_explore.specs.Private.Explored.{IsExplored}
use Rattle.lab_worlds.specs.Closed.{AreAtRest}
use Rattle.lab_worlds.specs.Unwaiting.{NoneGoesOn, unwaiting, AskAgain}
use Rattle.lab_search.specs.Stored.{IsAt, IsLike, IsSearched}
use Rattle.lab_worlds.specs.Private.Kept.{Keeps}
use Rattle.lab_search.specs.Reduced.{IsSearchedIn}
use Rattle.lab_states.specs.Depths.{AreDepths}
use Rattle.lab_worlds.specs.Walked.{waiting}
use Rattle.lab_states.specs.Rising.{AreRising}
use Rattle.lab_worlds.specs.Lassos.{AreBounded}
use Rattle.lab_explore.specs.declared.reached.Visited.{Visited}
use Rattle.lab_explore.specs.Visits.{start_of, IsVisited, IsWhole}
use Rattle.lab_explore.specs.Private.RowEnds.{HasUnwaitingEnd, HaveRowEnds}
use Rattle.lab_worlds.specs.Ends.{IsEnd, AreEnds, HaveAllEnds, NoneStuck, NeverStuck}
use Rattle.lab_worlds.proofs.UnwaitingWorlds.{rests_alike}
use Rattle.std.specs.List.Sorted.{IsPermutation}
use Rattle.std.proofs.lemmas.List.Sorted.{All-permutation, IsPermutation-sym}
use Rattle.std.proofs.lemmas.Option.{slice_get-get_or}
use Rattle.lab_worlds.proofs.Pushes.{get_pushed, all_at}
use Rattle.lab_search.proofs.FirstWorlds.{at_unique, AreAtDepth, all_levels}
use Rattle.lab_worlds.proofs.FewestCalls.{unwaiting_waits}
use Rattle.lab_search.proofs.Bounds.{searched_bounded}
use Rattle.lab_search.proofs.ReducedEnds.{reaches_end_by_reduction}
use Rattle.lab_search.proofs.ReducedBounds.{by_reduction_bounded}
use Rattle.lab_worlds.proofs.HeldAdvances.{asks_run, reaches_end}
use Rattle.lab_worlds.proofs.WalkedEnds.{verdict_rests}
use Rattle.lab_explore.proofs.MetWorlds.{IsStart}

-- an exploration is one whatever it says that it met
pub explored_met : (start : WorldState) (nevers : List Never) (fair : Bool) (e : Exploration) (met : Option Met) → IsExplored start nevers fair e → IsExplored start nevers fair (record e { met = met })
explored_met start nevers fair e met h = record {
  sound = h.sound;
  ordered = h.ordered;
  complete = h.complete;
  fewest = h.fewest;
  free = h.free;
  reached = h.reached;
  unreached = h.unreached;
  lasso = h.lasso;
  repeats = h.repeats;
  endless = h.endless;
  bounded = h.bounded;
  fair_asked = h.fair_asked;
  fair_lasso = h.fair_lasso;
  fairly_endless = h.fairly_endless;
  fairly_bounded = h.fairly_bounded;
}

-- a search that isn't reduced holds each step
pub whole_search : (reduced : Bool) (start : WorldState) (t : Store) → reduced ≡ false → IsSearchedIn reduced start t → IsSearched start t
whole_search false start t e h = h
whole_search true start t e h = absurd (cc)

pub whole_visited : (v : Visited) → IsVisited v → v.reduced ≡ false → IsWhole v
whole_visited v h off = record { visited = h; searched = λ is. whole_search v.reduced (start_of v) v.store off (h.searched is) }

-- a search is reduced only where it was to be
pub asked_for : (asked got : Bool) → (asked ≡ false → got ≡ false) → got ≡ true → asked ≡ true
asked_for true got h is = refl
asked_for false got h is = let off = h refl in absurd (cc)

-- a row has the world at rest to which steps lead, but for who waits; its depth, and one for each process that waits, are no more than
-- the calls among the steps
abbrev HasRest : WorldState → Store → List ℕ → List ℕ → Type 0
HasRest start t depths ps =
    (v : WorldState) × (n : ℕ) × AreAtDepth t depths n v × NoneGoesOn v × AreAlike (unwaiting (run start ps)) v × (n + waiting (run start ps) ≤ waiting start + length (entries start ps))

rests_in : (reduced : Bool) (start : WorldState) (t : Store) (depths : List ℕ) → IsStart start → IsSearchedIn reduced start t → AreDepths depths t.edges → (ps : List ℕ) → AreAtRest (run start ps)
    → HasRest start t depths ps
rests_in false start t depths is searched deep ps rest = reaches_end start (AreAtDepth t depths) is.consistent is.asks (all_levels t start depths is.same searched deep) ps rest
rests_in true start t depths is searched deep ps rest = reaches_end_by_reduction t start depths is.consistent is.asks is.same is.named searched deep ps rest

-- where all edges rise, there is a bound on effective steps
pub bounded_in : (reduced : Bool) (start : WorldState) (t : Store) → IsStart start → IsSearchedIn reduced start t → AreRising t.edges → AreBounded start
bounded_in false start t is searched rising = searched_bounded t start is.consistent is.asks is.same searched rising
bounded_in true start t is searched rising = by_reduction_bounded t start is.consistent is.asks is.same is.named searched rising

-- one of the ends is in a world alike, with its verdict, after at most n calls
abbrev pub IsReachedIn : List End → WorldState → ℕ → Type 0
IsReachedIn ends w n = (i : ℕ) × (e : End) × (slice_get ends i ≡ Some e) × AreAlike w e.world × IsVerdict w e.verdict × (e.calls ≤ n)

-- so is each world at rest, where each row from whose world no process goes on has its end
pub all_ends : (reduced : Bool) (start : WorldState) (t : Store) (ends : List End) → IsStart start → AreEnds start ends → IsSearchedIn reduced start t → HaveRowEnds t ends
    → (ps : List ℕ) → AreAtRest (run start ps) → IsReachedIn ends (run start ps) (length (entries start ps))
all_ends reduced start t ends is each searched all ps rest =
    let w = run start ps in
    let held = rests_in reduced start t all.depths is searched all.are ps rest in
    let found = all.each held.2.0 held.0 held.2.1 held.3 in
    let e = found.1 in
    let end = all_at (IsEnd start) ends found.0 e each found.2 in
    let ask : AskAgain e.world = subst AskAgain end.leads (asks_run (steps_of e.schedule) start is.asks) in
    let alike = rests_alike w e.world (asks_run ps start is.asks) ask rest end.rests (world_then (unwaiting w) held.0 (unwaiting e.world) held.4 found.3) in
    let there = subst (λ (x : WorldState). IsConsistent x.kernel) end.leads (consistent_run (steps_of e.schedule) start is.consistent) in
    let none : waiting start ≡ 0 = ap waiting (sym is.same) ∙ unwaiting_waits start in
    let waits : waiting e.world ≡ waiting w = ap (count_by is_waiting) alike.processes in
    let few = found.4 in
    let deep = held.2.2 in
    let most = held.5 in
    (found.0, e, found.2, alike, one_verdict e.world w e.verdict there (world_back w e.world alike) end.verdict, omega (arith, few, deep, most, none, waits))

-- ends that were found stay found
pub end_kept : (xs ys : List End) (w : WorldState) (d : ℕ) → Keeps xs ys → HasUnwaitingEnd xs w d → HasUnwaitingEnd ys w d
end_kept xs ys w d keeps h = (h.0, h.1, keeps h.0 h.1 h.2, h.3, h.4)

-- ends in another order
pub end_sorted : (xs ys : List End) (w : WorldState) (d : ℕ) → IsPermutation xs ys → HasUnwaitingEnd xs w d → HasUnwaitingEnd ys w d
end_sorted xs ys w d same h =
    let there : All (λ e. (j : ℕ) × (slice_get ys j ≡ Some e)) ys = λ k d below. (k, slice_get-get_or ys k d below) in
    let each = All-permutation (λ e. (j : ℕ) × (slice_get ys j ≡ Some e)) ys xs (IsPermutation-sym xs ys same) there in
    let found = all_at (λ e. (j : ℕ) × (slice_get ys j ≡ Some e)) xs h.0 h.1 each h.2 in
    (found.0, h.1, found.1, h.3, h.4)

-- the end of a row that was pushed
pub end_pushed : (t : Store) (i d : ℕ) (w : WorldState) (e : End) (xs ys : List End) → ys ≡ xs ++ e ∷ [] → IsLike t i (unwaiting e.world) → e.calls ≤ d + waiting e.world → IsAt t i w → HasUnwaitingEnd ys w d
end_pushed t i d w e xs ys is here few there =
    (length xs, e, ap (λ zs. slice_get zs (length xs)) is ∙ get_pushed xs e, subst (λ v. AreAlike v (unwaiting e.world)) (at_unique t i here.0 w here.1 there) here.2, few)

waits_on : (s : Process) → IsWaiting s → HasEnded s → ⊥
waits_on (Waiting m c) waits ended = ended
waits_on _ waits ended = waits

-- the verdict of a world that is stuck
stuck_verdict : (w : WorldState) (v : Verdict) → AreStuck w → IsVerdict w v → v ≡ verdict.Stuck
stuck_verdict w verdict.Ended stuck h = absurd (waits_on stuck.waits.1 stuck.waits.3 (h stuck.waits.0 stuck.waits.1 stuck.waits.2))
stuck_verdict w verdict.Stuck stuck h = refl
stuck_verdict w verdict.Open stuck h = absurd (h.1 stuck)

-- where no end of all is stuck, no steps lead to a world that is
pub never_stuck : (start : WorldState) (ends : List End) → HaveAllEnds start ends → NoneStuck ends → NeverStuck start
never_stuck start ends all none ps stuck =
    let has = all ps (verdict_rests (run start ps) verdict.Stuck stuck (λ e. absurd (cc))) in
    all_at (λ e. e.verdict ≡ verdict.Stuck → ⊥) ends has.0 has.1 none has.2 (stuck_verdict (run start ps) has.1.verdict stuck has.4)
