-- States that are kept with the calls at which they stand.
use Rattle.std.proofs.Common.{ℕ, ◌≡◌, List, Option, Some, None, refl, ◌∙◌, subst, slice_get}
use Rattle.ipc_kernel.specs.declared.call.Call.{Call}
use Rattle.lab_sched.specs.Worlds.{Process, Running, Waiting, Ended, next_action}
use Rattle.lab_sched.specs.Held.{process_view}
use Rattle.lab_conditions.specs.Conditions.{call_of, StandsAt}
use Rattle.lab_worlds.specs.Calls.{Both}
use Rattle.lab_states.specs.declared.collapsed_states.CollapsedState.{CollapsedState}
use Rattle.lab_states.specs.Private.Standing.{IsStanding, AreStanding}
use Rattle.lab_states.proofs.SilentProcesses.{calls_next}

-- a process stands at its call
standing : (s : Process) (c : Call) → call_of s ≡ Some c → StandsAt s c
standing (Running m) c e = calls_next (next_action m) c e
standing (Waiting m d) c e = cc
standing (Ended f) c e = absurd (cc)

-- the state beside a call
pub standing_at : (ss : List CollapsedState) (cs : List (Option Call)) (i : ℕ) (c : Call) → AreStanding ss cs → slice_get cs i ≡ Some (Some c) → (s : CollapsedState) × (slice_get ss i ≡ Some s) × StandsAt (process_view s.process) c
standing_at ss cs i c are e = by (slice_get ss i) refl (subst (λ o. Both IsStanding (slice_get ss i) o) e (are i))
  where
    by : (o : Option CollapsedState) → slice_get ss i ≡ o → Both IsStanding (slice_get ss i) (Some (Some c)) → (s : CollapsedState) × (slice_get ss i ≡ Some s) × StandsAt (process_view s.process) c
    by None f b = absurd (subst (λ x. Both IsStanding x (Some (Some c))) f b)
    by (Some s) f b = (s, f, standing (process_view s.process) c (subst (λ x. Both IsStanding x (Some (Some c))) f b))
