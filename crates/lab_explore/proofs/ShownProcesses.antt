-- What a search, which is reduced or isn't, shows of each process by itself.
use Rattle.std.proofs.Common.{ℕ, ◌≡◌, Bool, true, false, Option, Some, None, refl, sym, ap, subst, ◌∙◌, slice_get}
use Rattle.ipc_kernel.specs.declared.call.Answer.TheVariants.{Done}
use Rattle.lab_sched.specs.Worlds.{Process, WorldState, local_step, kernel_step, run}
use Rattle.lab_sched.specs.Stepping.{before_wait}
use Rattle.lab_search.specs.declared.store.Store.{Store}
use Rattle.lab_search.specs.Stored.{IsSearched}
use Rattle.lab_search.specs.Reduced.{IsSearchedIn}
use Rattle.lab_search.specs.Shown.{IsInRow, ShowsProcesses}
use Rattle.lab_search.proofs.ReducedStates.{at_call_before, shows_by_reduction}
use Rattle.lab_worlds.specs.Calls.{IsAtCall, IsAhead, Both}
use Rattle.lab_worlds.specs.Unwaiting.{GoesOn}
use Rattle.lab_worlds.proofs.AfterLocalSteps.{stays}
use Rattle.lab_worlds.proofs.UnwaitingWorlds.{unwaiting_at}
use Rattle.lab_explore.proofs.MetWorlds.{IsStart, IsMet, met, call_met}

-- a process at a call is so in the world that is met
met_state : (t : Store) (w : WorldState) (p : ℕ) (s : Process) → IsMet t w → slice_get w.processes p ≡ Some s → IsAtCall s → IsInRow t p (before_wait s)
met_state t w p s m at call = by (slice_get m.world.processes p) refl (subst (λ o. Both IsAhead o (slice_get m.world.processes p)) (unwaiting_at w p (Some s) at) (m.advance.processes p))
  where
    by : (o : Option Process) → slice_get m.world.processes p ≡ o → Both IsAhead (Some (before_wait s)) o → IsInRow t p (before_wait s)
    by None there ahead = absurd ahead
    by (Some u) there ahead = (m.row, m.world, m.there, there ∙ ap (λ x. Some x) (stays (before_wait s) u (at_call_before s (m.asks p s at) call) ahead))

shows_whole : (start : WorldState) (t : Store) → IsStart start → IsSearched start t → ShowsProcesses start t
shows_whole start t is searched = record {
  states = λ ps p s at call. met_state t (run start ps) p s (met t start is searched ps) at call;
  calls = λ ps p m c r made.
      let w = run start ps in
      let there = met t start is searched ps in
      let call = call_met t w p there (subst GoesOn (sym made) tt) (λ q local. let no : kernel_step m c (Done r) ≡ local_step q = sym made ∙ local in absurd (cc)) in
      (there.row, there.world, there.there, call.2 ∙ made);
}

pub shows_in : (reduced : Bool) (start : WorldState) (t : Store) → IsStart start → IsSearchedIn reduced start t → ShowsProcesses start t
shows_in false start t is searched = shows_whole start t is searched
shows_in true start t is searched = shows_by_reduction t start is.consistent is.asks is.same is.named searched
