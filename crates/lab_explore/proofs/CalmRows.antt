-- What is found of a process over a kernel is so in the world of each row that has both.
use Rattle.std.proofs.Common.{ℕ, ◌≡◌, ◌<◌, false, List, Option, Some, None, refl, ap, subst, ◌∙◌, option_map, slice_get, length, map, arith}
use Rattle.std.proofs.lemmas.List.{length-map}
use Rattle.std.proofs.lemmas.Option.{slice_get-map}
use Rattle.lab_sched.specs.declared.process.Process.{Process as Kept}
use Rattle.lab_sched.specs.Worlds.{Process, WorldState}
use Rattle.lab_sched.specs.Held.{process_view}
use Rattle.lab_sched.specs.Starts.{initial_world}
use Rattle.lab_sched.proofs.ListPlaces.{get_past}
use Rattle.lab_conditions.specs.declared.never.Refusal.{Refusal}
use Rattle.lab_states.specs.Rows.{Row}
use Rattle.lab_search.specs.declared.store.Store.{Store}
use Rattle.lab_search.specs.Stored.{IsState, IsAt, AreErrorsAt}
use Rattle.lab_sched.specs.declared.stepped.Stepped.{Stepped}
use Rattle.lab_conditions.specs.Refusals.{is_refused}
use Rattle.lab_worlds.specs.declared.errors.Errors.{Errors}
use Rattle.lab_worlds.specs.Errors.{HasErrorAmong, IsAnsweredToCall}
use Rattle.lab_worlds.specs.Calls.{Both}
use Rattle.lab_worlds.proofs.AfterLocalSteps.{same_some}
use Rattle.lab_explore.specs.declared.refusals.Alone.{Alone}
use Rattle.lab_explore.specs.Private.Judged.{IsQuiet, IsCalm, IsCalmAt, BeginsQuietly}
use Rattle.lab_explore.proofs.MetWorlds.{state_at}
use Rattle.lab_explore.proofs.QuietSteps.{calm_among}

-- what is calm apart from the others is calm there
pub calm_there : (r : Refusal) (t : Store) (at pid : ℕ) (a : Alone) → a.pid ≡ pid
    → ((w : WorldState) (s : Process) → IsAt t at w → slice_get w.processes pid ≡ Some s → (a.kernel ≡ w.kernel) × (process_view a.process ≡ s)) → IsCalm r a.kernel a.pid (process_view a.process)
    → IsCalmAt r t at pid
calm_there r t at pid a same there calm meant w s here found =
    let is = there w s here found in
    subst (λ k. IsCalm r k pid s) is.0 (subst (λ x. IsCalm r a.kernel pid x) is.1 (subst (λ n. IsCalm r a.kernel n (process_view a.process)) same calm))

-- what is known to be refused with no error that is meant is calm
pub calm_known : (r : Refusal) (t : Store) (at pid n : ℕ) (es : Errors) → AreErrorsAt t at pid n es → ((told : Stepped) → HasErrorAmong es told → is_refused r told ≡ false) → IsCalmAt r t at pid
calm_known r t at pid n es known not meant w s here found =
    let h = known w here in
    let same : h.0 ≡ s = same_some h.0 s (slice_get w.processes pid) h.1 found in
    calm_among r es n w.kernel pid s not (subst (λ x. IsAnsweredToCall w.kernel pid x n es) same h.2)

-- a row has no more processes than that
pub calm_row : (r : Refusal) (t : Store) (at count : ℕ) → ((x : Row) × (slice_get t.rows at ≡ Some x) × (count ≡ length x.states)) → ((p : ℕ) → p < count → IsCalmAt r t at p)
    → (p : ℕ) → IsCalmAt r t at p
calm_row r t at count width below p meant w s here there = by (slice_get width.0.states p) refl (state_at t at p width.0 w s width.1 here there)
  where
    by : (o : Option ℕ) → slice_get width.0.states p ≡ o → Both (IsState t) o (Some s) → IsCalm r w.kernel p s
    by None e h = absurd h
    by (Some i) e h =
        let within = get_past width.0.states p i e in
        let many = width.2 in
        below p (omega (arith, within, many)) meant w s here there

-- a process at its start
pub begins : (r : Refusal) (ps : List Kept) (pid : ℕ) (k : Kept) → slice_get ps pid ≡ Some k → IsQuiet r (process_view k) → BeginsQuietly r (initial_world ps) pid
begins r ps pid k at quiet meant s here =
    subst (IsQuiet r) (same_some (process_view k) s (slice_get (map process_view ps) pid) (slice_get-map process_view ps pid ∙ ap (option_map process_view) at) here) quiet

-- all processes
pub begin_all : (r : Refusal) (ps : List Kept) → ((p : ℕ) → p < length ps → BeginsQuietly r (initial_world ps) p) → (p : ℕ) → BeginsQuietly r (initial_world ps) p
begin_all r ps below p meant s here =
    let within = get_past (map process_view ps) p s here in
    let count = length-map ps process_view in
    below p (omega (arith, within, count)) meant s here
