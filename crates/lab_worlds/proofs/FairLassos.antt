-- Passes, fair lassos, and passes as many as one likes.
use Rattle.std.proofs.Common.{ℕ, Bool, zero, suc, ◌≡◌, ◌<◌, ◌≤◌, ◌++◌, List, [], ◌∷◌, Option, Some, None, IfSome, true, false, refl, sym, ap, subst, ◌∙◌, arith, length, slice_get, set, get_or, replicate, inl, inr, All, rules}
use Rattle.std.specs.Prelude.{Contains}
use Rattle.std.proofs.Math.ListN.{get_or-append}
use Rattle.std.proofs.lemmas.List.{append_assoc, append-nil, length-append, length-replicate, length-set}
use Rattle.std.proofs.lemmas.List.Elements.{All-replicate, Contains-push}
use Rattle.std.proofs.lemmas.Option.{slice_get-get_or}
use Rattle.ipc_kernel.specs.Alike.{IsConsistent}
use Rattle.lab_sched.specs.Worlds.{WorldState, step_effect_in, run, entries, IsEffective}
use Rattle.lab_sched.specs.Execution.{AreEffective}
use Rattle.lab_sched.specs.Schedules.{steps_of}
use Rattle.lab_sched.proofs.ListPlaces.{get-set_other}
use Rattle.lab_worlds.specs.declared.walking.Walk.{Walk}
use Rattle.lab_worlds.specs.declared.closed_walks.FairSegment.{FairSegment}
use Rattle.lab_worlds.specs.declared.exploration.Lasso.{Lasso}
use Rattle.lab_worlds.specs.Calls.{AreAlike}
use Rattle.lab_worlds.specs.Fairness.{IsFairTo, IsFairSegment, AreFairSegments, IsFairLasso, AreFairlyEndless}
use Rattle.lab_worlds.specs.Walked.{IsWalk}
use Rattle.lab_worlds.specs.Segments.{IsSegmentSoFar}
use Rattle.lab_worlds.proofs.Pushes.{all_at, at_or_other}
use Rattle.lab_worlds.proofs.AlikeWorlds.{world_itself, world_then, world_back, same_effect, run_alike, effective_alike, consistent_run}

-- a process that is served is served along more steps
pub contained_more : (ps qs : List ℕ) (p : ℕ) → Contains ps p → Contains (ps ++ qs) p
contained_more ps qs p h = search (rules, length-append, get_or-append)

fair_to_more : (w : WorldState) (ps qs : List ℕ) (p : ℕ) → IsFairTo w ps p → IsFairTo w (ps ++ qs) p
fair_to_more w ps qs p (inl takes) = inl (contained_more ps qs p takes)
fair_to_more w ps qs p (inr pause) = inr (pause.0, pause.1 ++ qs, ap (λ xs. xs ++ qs) pause.2 ∙ append_assoc pause.0 pause.1 qs, pause.3)

-- one process more that is served
fair_to_set : (w : WorldState) (ps : List ℕ) (fair_to : List Bool) (p : ℕ) → p < length fair_to → IsFairTo w ps p
    → ((q : ℕ) → slice_get fair_to q ≡ Some true → IsFairTo w ps q) → (q : ℕ) → slice_get (set fair_to p true) q ≡ Some true → IsFairTo w ps q
fair_to_set w ps fair_to p within own others q e = at_or_other (IsFairTo w ps) p q own (λ other. others q (sym (get-set_other fair_to p q true other) ∙ e))

-- after a step
pub taken_segment_so_far : (start : WorldState) (old new : FairSegment) (p : ℕ) → IsSegmentSoFar start old → IsWalk start new.walk → steps_of new.walk.schedule ≡ steps_of old.walk.schedule ++ p ∷ []
    → p < length old.fair_to.items → new.fair_to.items ≡ set old.fair_to.items p true → IsSegmentSoFar start new
taken_segment_so_far start old new p h walk steps within fair_to = record {
  walk = walk;
  count = ap length fair_to ∙ length-set old.fair_to.items p true ∙ h.count;
  fair_to = subst (λ ps. (q : ℕ) → slice_get new.fair_to.items q ≡ Some true → IsFairTo start ps q) (sym steps)
      (subst (λ bs. (q : ℕ) → slice_get bs q ≡ Some true → IsFairTo start (steps_of old.walk.schedule ++ p ∷ []) q) (sym fair_to)
      (fair_to_set start (steps_of old.walk.schedule ++ p ∷ []) old.fair_to.items p within (inl (Contains-push (steps_of old.walk.schedule) p))
      (λ q e. fair_to_more start (steps_of old.walk.schedule) (p ∷ []) q (h.fair_to q e))));
}

-- where a process has no effective step
pub paused_segment_so_far : (start : WorldState) (old new : FairSegment) (p : ℕ) → IsSegmentSoFar start old → new.walk.world ≡ old.walk.world → new.walk.schedule ≡ old.walk.schedule → new.walk.calls ≡ old.walk.calls
    → (IsEffective (step_effect_in old.walk.world p) → ⊥) → p < length old.fair_to.items → new.fair_to.items ≡ set old.fair_to.items p true → IsSegmentSoFar start new
paused_segment_so_far start old new p h world schedule calls none within fair_to = record {
  walk = record {
    effective = subst (λ s. AreEffective start (steps_of s)) (sym schedule) h.walk.effective;
    leads = ap (λ s. run start (steps_of s)) schedule ∙ h.walk.leads ∙ sym world;
    calls = ap (λ s. length (entries start (steps_of s))) schedule ∙ h.walk.calls ∙ sym calls;
  };
  count = ap length fair_to ∙ length-set old.fair_to.items p true ∙ h.count;
  fair_to = subst (λ s. (q : ℕ) → slice_get new.fair_to.items q ≡ Some true → IsFairTo start (steps_of s) q) (sym schedule)
      (subst (λ bs. (q : ℕ) → slice_get bs q ≡ Some true → IsFairTo start (steps_of old.walk.schedule) q) (sym fair_to)
      (fair_to_set start (steps_of old.walk.schedule) old.fair_to.items p within
      (inr (steps_of old.walk.schedule, [], sym (append-nil (steps_of old.walk.schedule)), subst (λ w. IsEffective (step_effect_in w p) → ⊥) (sym h.walk.leads) none)) h.fair_to));
}

-- no process is served before the first step
pub none_segment_so_far : (start : WorldState) (p : FairSegment) (n : ℕ) → IsWalk start p.walk → p.fair_to.items ≡ replicate n false → n ≡ length start.processes → IsSegmentSoFar start p
none_segment_so_far start p n walk fair_to count = record {
  walk = walk;
  count = ap length fair_to ∙ length-replicate n false ∙ count;
  fair_to = λ q e. absurd (none q e);
}
  where
    none : (q : ℕ) → slice_get p.fair_to.items q ≡ Some true → ⊥
    none q e =
        let here : slice_get (replicate n false) q ≡ Some true = ap (λ bs. slice_get bs q) (sym fair_to) ∙ e in
        let no = all_at (λ b. b ≡ false) (replicate n false) q true (All-replicate (λ b. b ≡ false) n false refl) here in
        absurd (cc)

-- a walk that has a step and serves each process is a fair segment
pub whole_segment : (start : WorldState) (p : FairSegment) → 1 ≤ length (steps_of p.walk.schedule) → All (λ b. b ≡ true) p.fair_to.items → IsSegmentSoFar start p → IsFairSegment start (steps_of p.walk.schedule)
whole_segment start p some all h = record {
  some = some;
  effective = h.walk.effective;
  fair_to = λ q within.
      let there : q < length p.fair_to.items = let count = h.count in omega (arith, within, count) in
      let at = slice_get-get_or p.fair_to.items q true there in
      let yes = all_at (λ b. b ≡ true) p.fair_to.items q (get_or p.fair_to.items q true) all at in
      h.fair_to q (at ∙ ap (λ b. Some b) yes);
}

-- a fair segment from the world of a walk to one that both are alike
pub fair_lasso : (start first : WorldState) (w : Walk) (r : Lasso) → IsWalk start w → r.schedule ≡ w.schedule → AreAlike first w.world → IsFairSegment w.world (steps_of r.steps)
    → AreAlike first (run w.world (steps_of r.steps)) → IsFairLasso start r
fair_lasso start first w r walk schedule alike segment returns =
    let leads : run start (steps_of r.schedule) ≡ w.world = ap (λ s. run start (steps_of s)) schedule ∙ walk.leads in
    let back = world_then w.world first (run w.world (steps_of r.steps)) (world_back first w.world alike) returns in
    record {
      lasso = record {
        effective = subst (λ s. AreEffective start (steps_of s)) (sym schedule) walk.effective;
        some = segment.some;
        goes_on = subst (λ v. AreEffective v (steps_of r.steps)) (sym leads) segment.effective;
        returns = subst (λ v. AreAlike v (run v (steps_of r.steps))) (sym leads) back;
      };
      segment = subst (λ v. IsFairSegment v (steps_of r.steps)) (sym leads) segment;
    }

-- a process is served from a world alike, too
fair_to_alike : (w v : WorldState) (ps : List ℕ) (p : ℕ) → IsConsistent w.kernel → AreAlike w v → IsFairTo w ps p → IsFairTo v ps p
fair_to_alike w v ps p consistent alike (inl takes) = inl takes
fair_to_alike w v ps p consistent alike (inr pause) =
    let same = same_effect (run w pause.0) (run v pause.0) p (consistent_run pause.0 w consistent) (run_alike pause.0 w v consistent alike) in
    inr (pause.0, pause.1, pause.2, λ effective. pause.3 (subst IsEffective same effective))

segment_alike : (w v : WorldState) (ps : List ℕ) → IsConsistent w.kernel → AreAlike w v → IsFairSegment w ps → IsFairSegment v ps
segment_alike w v ps consistent alike segment = record {
  some = segment.some;
  effective = effective_alike ps w v consistent alike segment.effective;
  fair_to = λ p within. fair_to_alike w v ps p consistent alike (segment.fair_to p (subst (λ ss. p < length ss) alike.processes within));
}

-- a fair segment that leads to a world alike, so many times, from a world alike
repeated : (w x : WorldState) (ps : List ℕ) → IsConsistent w.kernel → IsFairSegment w ps → AreAlike w (run w ps) → AreAlike w x → (n : ℕ) → AreFairSegments x (replicate n ps)
repeated w x ps consistent segment returns alike zero = tt
repeated w x ps consistent segment returns alike (suc n) =
    let there = world_then w (run w ps) (run x ps) returns (run_alike ps w x consistent alike) in
    (segment_alike w x ps consistent alike segment, repeated w (run x ps) ps consistent segment returns there n)

-- a fair lasso gives passes as many as one likes
pub some_fairly_endless : (start : WorldState) (o : Option Lasso) → IsConsistent start.kernel → IfSome o (λ r. IsFairLasso start r) → IfSome o (λ r. AreFairlyEndless start)
some_fairly_endless start None consistent h = h
some_fairly_endless start (Some r) consistent h = λ n.
    let w = run start (steps_of r.schedule) in
    let long = length-replicate n (steps_of r.steps) in (
      steps_of r.schedule,
      replicate n (steps_of r.steps),
      h.lasso.effective,
      repeated w w (steps_of r.steps) (consistent_run (steps_of r.schedule) start consistent) h.segment h.lasso.returns (world_itself w) n,
      omega (arith, long),
    )
