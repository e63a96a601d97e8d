-- Walks, and the state after their steps.
use Rattle.std.proofs.Common.{ℕ, ◌≡◌, ◌++◌, false, arith, inl, inr, IsTrue, List, [], ◌∷◌, refl, sym, ap, subst, ◌∙◌, length}
use Rattle.std.proofs.lemmas.List.{length-append}
use Rattle.lab_sched.specs.declared.verdict.Verdict.{Verdict}
use Rattle.lab_sched.specs.declared.verdict.Verdict.TheVariants as verdict
use Rattle.lab_sched.specs.Worlds.{WorldState, step_effect_in, step, run, entries}
use Rattle.lab_sched.specs.Schedules.{steps_of}
use Rattle.lab_sched.specs.Verdicts.{IsVerdict}
use Rattle.lab_sched.proofs.Executions.{entries-append}
use Rattle.lab_worlds.specs.Closed.{AreAtRest}
use Rattle.lab_worlds.specs.Walked.{IsWalk, KeepsStart}
use Rattle.lab_worlds.proofs.FewestCalls.{calls_in}
use Rattle.lab_worlds.proofs.OnwardSteps.{calls_more}
use Rattle.lab_worlds.proofs.WalkedEnds.{verdict_rests}
use Rattle.lab_ways.specs.declared.wanted.Wanted.{Wanted}
use Rattle.lab_ways.specs.declared.walking.WatchedWalk.{WatchedWalk}
use Rattle.lab_ways.specs.Wanted.{next_in, is_allowed, is_accepted}
use Rattle.lab_ways.specs.Ways.{state_from, state_after}
use Rattle.lab_ways.specs.Private.Marked.{IsWatched, KeepsWatched, ComesToEnd}
use Rattle.lab_ways.proofs.NextStates.{uncalled}

-- the state after one step more
state_more : (x : Wanted) (ps : List ℕ) (s : ℕ) (w : WorldState) (p : ℕ) → state_from x s w (ps ++ p ∷ []) ≡ next_in x (state_from x s w ps) (run w ps) p
unfolding state_from run
state_more x [] s w p = refl
state_more x (q ∷ ps) s w p = state_more x ps (next_in x s w q) (step w q) p

-- a step leads to the state after it
pub watched_on : (x : Wanted) (old new : WatchedWalk) (p : ℕ) → next_in x old.state old.walk.world p ≡ new.state → KeepsStart old.walk new.walk
    → steps_of new.walk.schedule ≡ steps_of old.walk.schedule ++ p ∷ [] → KeepsWatched x old new
watched_on x old new p next keeps steps start h = record {
  walk = keeps start h.walk;
  state = ap (state_after x start) steps ∙ state_more x (steps_of old.walk.schedule) 0 start p ∙ ap (λ s. next_in x s (run start (steps_of old.walk.schedule)) p) h.state
      ∙ ap (λ w. next_in x old.state w p) h.walk.leads ∙ next;
}

-- steps none of which is a call leave the state
none_called : (x : Wanted) (ps : List ℕ) (s : ℕ) (w : WorldState) → length (entries w ps) ≡ 0 → state_from x s w ps ≡ s
unfolding state_from
none_called x [] s w none = refl
none_called x (p ∷ ps) s w none =
    let more = calls_more w p ps in
    ap (λ n. state_from x n (step w p) ps) (uncalled x s w.kernel p (step_effect_in w p) (omega (arith, more, none)))
    ∙ none_called x ps s (step w p) (omega (arith, more, none))

pub watched_start : (x : Wanted) (start : WorldState) (w : WatchedWalk) → IsWalk start w.walk → w.walk.calls ≡ 0 → w.state ≡ 0 → IsWatched x start w
watched_start x start w h none first = record { walk = h; state = none_called x (steps_of w.walk.schedule) 0 start (h.calls ∙ none) ∙ sym first }

-- a local step leaves it
pub watched_local : (x : Wanted) (old new : WatchedWalk) (p : ℕ) → new.walk.calls ≡ old.walk.calls → new.state ≡ old.state → KeepsStart old.walk new.walk
    → steps_of new.walk.schedule ≡ steps_of old.walk.schedule ++ p ∷ [] → KeepsWatched x old new
watched_local x old new p same stays keeps steps start h =
    let ps = steps_of old.walk.schedule in
    let more = (keeps start h.walk).calls in
    let few = h.walk.calls in
    let all = ap (λ qs. length (entries start qs)) steps ∙ ap length (entries-append start ps (p ∷ [])) ∙ length-append (entries start ps) (entries (run start ps) (p ∷ [])) in
    let last = calls_more (run start ps) p [] in
    let none : calls_in p (step_effect_in (run start ps) p) ≡ 0 = omega (arith, same, more, few, all, last) in
    let left : next_in x old.state old.walk.world p ≡ old.state = subst (λ w. next_in x old.state w p ≡ old.state) h.walk.leads (uncalled x old.state (run start ps).kernel p (step_effect_in (run start ps) p) none) in
    watched_on x old new p (left ∙ sym stays) keeps steps start h

-- a step from a state that is allowed to one that isn't is an end
pub broken : (x : Wanted) (old new : WatchedWalk) (p : ℕ) → IsTrue (is_allowed x.pattern old.state) → is_allowed x.pattern new.state ≡ false → KeepsWatched x old new
    → steps_of new.walk.schedule ≡ steps_of old.walk.schedule ++ p ∷ [] → ComesToEnd x old new
broken x old new p allowed breaks keeps steps start h =
    let next = keeps start h in (
      next,
      inl (
        steps_of old.walk.schedule,
        p,
        steps,
        subst (λ s. IsTrue (is_allowed x.pattern s)) (sym h.state) allowed,
        ap (is_allowed x.pattern) next.state ∙ breaks,
      ),
    )

-- so is rest at a state that isn't accepted
pub rested : (x : Wanted) (walk : WatchedWalk) (v : Verdict) → IsVerdict walk.walk.world v → (v ≡ verdict.Open → ⊥) → is_accepted x.pattern walk.state ≡ false → ComesToEnd x walk walk
rested x walk v stands closed against start h =
    (h, inr (subst AreAtRest (sym h.walk.leads) (verdict_rests walk.walk.world v stands closed), ap (is_accepted x.pattern) h.state ∙ against))
