-- Processes that have ended: they do nothing more, so their uses may be left out.
use Rattle.std.proofs.Common.{ℕ, ◌≡◌, ◌==◌, ◌||◌, ◌++◌, Bool, true, false, List, [], ◌∷◌, Option, Some, None, refl, sym, ap, subst, ◌∙◌, slice_get, inl, inr}
use Rattle.std.proofs.lemmas.Bool.Decides.{eqb_tells}
use Rattle.std.proofs.lemmas.List.Folds.{list_any-append}
use Rattle.ipc_kernel.specs.declared.call.Call.{Call}
use Rattle.ipc_store.specs.declared.uses.ProcessUse.{ProcessUse}
use Rattle.ipc_store.specs.Uses.{is_among, uses_but, IsWithin}
use Rattle.ipc_store.proofs.UsesOfSome.{within_but, within_whole}
use Rattle.lab_sched.specs.Verdicts.{HasEnded, HasEndedIn}
use Rattle.lab_sched.specs.Worlds.{Process, Running, Waiting, Ended, WorldState, step_effect, step_effect_in, after, step, run}
use Rattle.lab_sched.proofs.Commutes.{after_other}
use Rattle.lab_conditions.specs.Conditions.{call_of}
use Rattle.lab_worlds.specs.Independent.{KeepsTo, IsCalm, HaveEnded}
use Rattle.lab_worlds.proofs.OnwardSteps.{AreCalm}

-- no process of none hasn't
pub none_ended : (w : WorldState) → HaveEnded w []
none_ended w p e = absurd (cc)

-- one more of some that have ended
pub ended_more : (w : WorldState) (ps : List ℕ) (q : ℕ) → HaveEnded w ps → HasEndedIn w q → HaveEnded w (ps ++ q ∷ [])
ended_more w ps q h own p e = elim (eqb_tells p q) [
  | inl same ↦ subst (HasEndedIn w) (sym same.1) own
  | inr other ↦ h p (sym (or_first (is_among ps p) (p == q) other.0) ∙ sym (list_any-append (λ n. p == n) ps (q ∷ [])) ∙ e)
]
  where
    or_first : (a b : Bool) → b ≡ false → (a || (b || false)) ≡ a
    or_first true b is = refl
    or_first false b is = ap (λ c. c || false) is

-- one that has ended makes no call
pub no_call : (s : Process) (c : Call) → HasEnded s → call_of s ≡ Some c → ⊥
no_call (Running m) c ended call = absurd ended
no_call (Waiting m d) c ended call = absurd ended
no_call (Ended e) c ended call = absurd (cc)

-- and has ended after each step
ended_step : (w : WorldState) (p q : ℕ) → HasEndedIn w p → HasEndedIn (step w q) p
ended_step w p q h = elim (eqb_tells q p) [
  | inl same ↦ subst (λ n. HasEndedIn (step w n) p) (sym same.1) (by (slice_get w.processes p) refl)
  | inr other ↦ (λ s at. h s (sym (after_other w p q (step_effect_in w q) other.1) ∙ at))
]
  where
    still : (e : Option Process) → slice_get w.processes p ≡ e → step w p ≡ after w p (step_effect w.kernel p e)
    still e at = ap (λ o. after w p (step_effect w.kernel p o)) at

    by : (o : Option Process) → slice_get w.processes p ≡ o → HasEndedIn (step w p) p
    by None at = subst (λ v. HasEndedIn v p) (sym (still None at)) h
    by (Some (Ended e)) at = subst (λ v. HasEndedIn v p) (sym (still (Some (Ended e)) at)) h
    by (Some (Running m)) at = absurd (h (Running m) at)
    by (Some (Waiting m c)) at = absurd (h (Waiting m c) at)

pub ended_after : (w : WorldState) (q : ℕ) (ps : List ℕ) → HaveEnded w ps → HaveEnded (step w q) ps
ended_after w q ps h p e = ended_step w p q (h p e)

pub ended_run : (qs : List ℕ) (w : WorldState) (ps : List ℕ) → HaveEnded w ps → HaveEnded (run w qs) ps
unfolding run
ended_run [] w ps h = h
ended_run (q ∷ qs) w ps h = ended_run qs (step w q) ps (ended_after w q ps h)

-- what each does is within the uses of those that haven't ended
pub keeps_but : (ps : List ℕ) (uses : List ProcessUse) (w : WorldState) (p : ℕ) → HaveEnded w ps → KeepsTo uses w p → KeepsTo (uses_but ps uses) w p
keeps_but ps uses w p ended keeps s c at call = by (is_among ps p) refl
  where
    by : (b : Bool) → is_among ps p ≡ b → IsWithin (uses_but ps uses) w.kernel p c
    by true e = absurd (no_call s c (ended p e s at) call)
    by false e = within_but ps uses w.kernel p c e (keeps s c at call)

pub calm_but : (ps : List ℕ) (uses : List ProcessUse) (w : WorldState) → HaveEnded w ps → IsCalm uses w → IsCalm (uses_but ps uses) w
calm_but ps uses w ended calm = record { keep = λ p. keeps_but ps uses w p ended (calm.keep p); low = calm.low }

pub calm_whole : (ps : List ℕ) (uses : List ProcessUse) (w : WorldState) → IsCalm (uses_but ps uses) w → IsCalm uses w
calm_whole ps uses w calm = record { keep = λ p s c at call. within_whole ps uses w.kernel p c (calm.keep p s c at call); low = calm.low }

pub are_calm_but : (ps : List ℕ) (uses : List ProcessUse) (qs : List ℕ) (w : WorldState) → HaveEnded w ps → AreCalm uses w qs → AreCalm (uses_but ps uses) w qs
are_calm_but ps uses [] w ended h = tt
are_calm_but ps uses (q ∷ qs) w ended h = (calm_but ps uses w ended h.0, are_calm_but ps uses qs (step w q) (ended_after w q ps ended) h.1)
