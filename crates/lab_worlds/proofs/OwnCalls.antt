-- Processes that stand at calls that no other process can notice.
use Rattle.std.proofs.Common.{ℕ, ◌≡◌, true, List, Some, refl, sym, subst}
use Rattle.ipc_kernel.specs.Kernel.{KernelState}
use Rattle.ipc_kernel.specs.declared.call.Call.{Call}
use Rattle.ipc_kernel.specs.declared.call.Answer.{Answer}
use Rattle.ipc_kernel.specs.declared.call.Answer.TheVariants.{Done, Wait}
use Rattle.ipc_kernel.specs.Answer.{answer}
use Rattle.ipc_kernel.specs.Operands.{are_named}
use Rattle.ipc_store.specs.declared.uses.ProcessUse.{ProcessUse}
use Rattle.ipc_store.specs.Uses.{is_own_by}
use Rattle.ipc_store.proofs.UnnoticedLaws.{unnoticed_calls_harmless}
use Rattle.lab_sched.specs.Worlds.{Process, Running, Waiting, Ended, kernel_step, step_effect, first_try, retry}
use Rattle.lab_conditions.specs.Conditions.{StandsAt}
use Rattle.lab_worlds.specs.Independent.{IsIndependent}

-- where each object has a name, a process that stands at one takes an independent step
pub standing_independent : (uses : List ProcessUse) (k : KernelState) (p : ℕ) (s : Process) (c : Call) → StandsAt s c → are_named k.places ≡ true → is_own_by uses k p c ≡ true
    → IsIndependent uses k p (step_effect k p (Some s))
standing_independent uses k p (Running m) c stands named own = subst (λ x. IsIndependent uses k p (first_try k p m x)) (sym stands) (by (answer k p c).0 refl)
  where
    by : (a : Answer) → (answer k p c).0 ≡ a → IsIndependent uses k p (kernel_step m c a)
    by Wait e = absurd ((unnoticed_calls_harmless uses k p c named own).answered e)
    by (Done r) e = own
standing_independent uses k p (Waiting m d) c stands named own = subst (λ x. IsIndependent uses k p (retry m x (answer k p x).0)) (sym stands) (by (answer k p c).0 refl)
  where
    by : (a : Answer) → (answer k p c).0 ≡ a → IsIndependent uses k p (retry m c a)
    by Wait e = absurd ((unnoticed_calls_harmless uses k p c named own).answered e)
    by (Done r) e = own
standing_independent uses k p (Ended e) c stands named own = absurd stands
