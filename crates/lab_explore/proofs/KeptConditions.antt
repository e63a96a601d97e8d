-- What a condition says of a world, it says of the world that is kept for it.
use Rattle.std.proofs.Common.{ℕ, ◌≡◌, true, false, ◌&&◌, nat_le, Option, Some, None, is_some, refl, sym, ap, subst, ◌∙◌, slice_get}
use Rattle.ipc_kernel.specs.Kernel.{KernelState}
use Rattle.ipc_kernel.specs.Alike.{IsConsistent}
use Rattle.ipc_store.proofs.Alikes.{alike_back}
use Rattle.lc3_machine.specs.Process.{Process as Machine}
use Rattle.lab_sched.specs.Worlds.{Process, Running, Waiting, Ended, WorldState, NextAction, moves, calls, next_action, run}
use Rattle.lab_sched.specs.Stepping.{before_wait}
use Rattle.lab_conditions.specs.declared.condition.State.{State}
use Rattle.lab_conditions.specs.declared.condition.State.TheVariants as state
use Rattle.lab_conditions.specs.declared.condition.Condition.{Condition}
use Rattle.lab_conditions.specs.Conditions.{must_wait, option_any, call_next, is_so, Holds}
use Rattle.lab_conditions.proofs.CarriedConditions.{so_alike, Carries, carried}
use Rattle.lab_search.specs.declared.store.Store.{Store}
use Rattle.lab_worlds.specs.Calls.{AreAlike, IsAtCall, IsAhead, Both}
use Rattle.lab_worlds.specs.Unwaiting.{AsksAgain}
use Rattle.lab_worlds.specs.Reached.{NeverHolds}
use Rattle.lab_search.specs.Stored.{IsSearched}
use Rattle.lab_explore.specs.Private.Judged.{NoRowHolds}
use Rattle.lab_worlds.proofs.AfterLocalSteps.{stays}
use Rattle.lab_worlds.proofs.UnwaitingWorlds.{unwaiting_at}
use Rattle.lab_explore.proofs.MetWorlds.{IsStart, IsMet, met}

-- a process that waits stands as it did before it began to
pub so_back : (x : State) (k : KernelState) (p : ℕ) (s : Process) → AsksAgain s → is_so x k p (before_wait s) ≡ is_so x k p s
so_back x k p (Running m) asks = refl
so_back x k p (Ended e) asks = refl
so_back state.Blocked k p (Waiting m c) asks = ap (λ a. option_any (must_wait k p) (call_next a)) asks
so_back (state.At first last) k p (Waiting m c) asks = ap (λ a. is_some (call_next a) && nat_le first m.pc && nat_le m.pc last) asks
so_back _ k p (Waiting m c) asks = refl

-- a process of which anything is so stands at a call
running_calls : (x : State) (k : KernelState) (p : ℕ) (m : Machine) (a : NextAction) → next_action m ≡ a → is_so x k p (Running m) ≡ true → IsAtCall (Running m)
running_calls x k p m (calls c) e so = (c, e)
running_calls state.Blocked k p m (moves q) e so =
    let none : false ≡ true = sym (ap (λ b. option_any (must_wait k p) (call_next b)) e) ∙ so in absurd (cc)
running_calls (state.At first last) k p m (moves q) e so =
    let none : false ≡ true = sym (ap (λ b. is_some (call_next b) && nat_le first m.pc && nat_le m.pc last) e) ∙ so in absurd (cc)
running_calls _ k p m (moves q) e so = let none : false ≡ true = so in absurd (cc)

pub so_at_call : (x : State) (k : KernelState) (p : ℕ) (s : Process) → is_so x k p s ≡ true → IsAtCall s
so_at_call x k p (Running m) so = running_calls x k p m (next_action m) refl so
so_at_call x k p _ so = tt

-- so it stands so in the world of the row that is met, too
carries_on : (t : Store) (w : WorldState) (m : IsMet t w) → Carries w m.world
carries_on t w m = record {
  kernel = m.advance.kernel;
  states = λ x p s at so.
      let back : is_so x w.kernel p (before_wait s) ≡ true = so_back x w.kernel p s (m.asks p s at) ∙ so in
      let both : Both IsAhead (Some (before_wait s)) (slice_get m.world.processes p) = subst (λ o. Both IsAhead o (slice_get m.world.processes p)) (unwaiting_at w p (Some s) at) (m.advance.processes p) in
      by x p (before_wait s) (slice_get m.world.processes p) refl both back;
}
  where
    by : (x : State) (p : ℕ) (s : Process) (o : Option Process) → slice_get m.world.processes p ≡ o → Both IsAhead (Some s) o → is_so x w.kernel p s ≡ true
        → (u : Process) × (slice_get m.world.processes p ≡ Some u) × (is_so x m.world.kernel p u ≡ true)
    by x p s None at ahead so = absurd ahead
    by x p s (Some u) at ahead so =
        let same : u ≡ s = stays s u (so_at_call x w.kernel p s so) ahead in
        (u, at, so_alike x w.kernel m.world.kernel p u m.consistent m.advance.kernel ∙ ap (λ z. is_so x w.kernel p z) same ∙ so)

-- a world has what one has that it is alike
pub holds_alike : (c : Condition) (v w : WorldState) → IsConsistent w.kernel → AreAlike v w → Holds c v → Holds c w
holds_alike c v w consistent a = carried c v w (record {
  kernel = a.kernel;
  states = λ x p s at so. (s, ap (λ ps. slice_get ps p) a.processes ∙ at, sym (so_alike x w.kernel v.kernel p s consistent (alike_back v.kernel w.kernel a.kernel)) ∙ so);
})

-- what holds of no row of a whole search holds after no steps
pub never_holds : (c : Condition) (start : WorldState) (t : Store) → IsStart start → IsSearched start t → NoRowHolds t c → NeverHolds start c
never_holds c start t is searched none ps holds =
    let m = met t start is searched ps in
    none m.row m.world m.there (carried c (run start ps) m.world (carries_on t (run start ps) m) holds)
