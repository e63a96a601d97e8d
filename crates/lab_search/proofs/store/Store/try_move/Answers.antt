use Rattle.std.proofs.Common.{inl, refl, subst, sym}
use Rattle.lab_sched.specs.Held.{process_view, IsHeld}
use Rattle.lab_states.specs.CollapsedStates.{kept_behind}
use Rattle.lab_worlds.specs.declared.random_walker.Attempt.TheVariants as attempt
use Rattle.lab_worlds.specs.Stepped.{IsReady, IsStepped}
use Rattle.lab_search.specs.declared.reduced.KeptAttempt.TheVariants.{Still, Runs, Came}
use Rattle.lab_search.specs.declared.store.Store.{Store}
use Rattle.lab_search.specs.Private.Stored.{output_at}
use Rattle.lab_search.proofs.Growths.{grown_by, kept_same, later_by, still_known}
use Rattle.lab_search.proofs.StepsBehind.{attempt_behind, held_apart, ready_behind}
use Rattle.lab_search.proofs.store.Store.try_move.Goals as goal

pub try_step-requires : goal.try_step-requires
try_step-requires c = record { held = subst IsHeld (sym c.in_ok-process.ensures.equal) (held_apart c.args.self.now c.args.mover.state c.in-Some.collapsed.now c.requires.store c.in-Some.ensures.whole) }

pub returns-in-Still-clause-attempt : goal.returns-in-Still-clause-attempt
returns-in-Still-clause-attempt c =
    attempt_behind c.args.self.now c.args.self.now c.args.mover c.in-Some.collapsed.now c.in_ok-process.process c.in-Some-2.kernel c.in_ok-try_step.field-0 attempt.Still Still c.in_ok-process.ensures.equal
    (rw c.in-Some-2.is at c.in_ok-kernel.ensures.kept) (rw c.in-Some-2.is at c.in_ok-kernel.ensures.settled) c.in-Some.ensures.whole c.in_ok-try_step.ensures.stepped c.in-Still.is (λ h. h)

pub returns-in-Runs-clause-attempt : goal.returns-in-Runs-clause-attempt
returns-in-Runs-clause-attempt c =
    attempt_behind c.args.self.now c.args.self.now c.args.mover c.in-Some.collapsed.now c.in_ok-process.process c.in-Some-2.kernel c.in_ok-try_step.field-0 attempt.Runs Runs c.in_ok-process.ensures.equal
    (rw c.in-Some-2.is at c.in_ok-kernel.ensures.kept) (rw c.in-Some-2.is at c.in_ok-kernel.ensures.settled) c.in-Some.ensures.whole c.in_ok-try_step.ensures.stepped c.in-Runs.is (λ h. h)

pub returns-in_ok-state-in-Came : goal.returns-in_ok-state-in-Came
returns-in_ok-state-in-Came c =
    let t = c.args.self.now in
    let k = c.in-Some-2.kernel in
    let made = c.in-Came.made in
    let state = c.in_ok-state-in-Came in
    let u : Store = record t { states = c.keep_behind.new.self } in
    let whole = kept_behind (output_at t c.in-Some.collapsed.now.before) made.process in
    let stepped = subst (IsStepped k c.args.mover.pid (process_view c.in_ok-process.process)) c.in-Came.is c.in_ok-try_step.ensures.stepped in
    let states = grown_by IsReady t.states.processes _ whole (ready_behind made.process (output_at t c.in-Some.collapsed.now.before) stepped.1) state.ensures.kept in
    record {
      later = later_by t u c.requires.store (kept_same t.kernels) states (inl refl) (inl refl) (still_known t c.requires.store);
      attempt = attempt_behind t u c.args.mover c.in-Some.collapsed.now c.in_ok-process.process k c.in_ok-try_step.field-0 (attempt.Came made) (Came made.kernel state.state made.taken made.errors) c.in_ok-process.ensures.equal
          (rw c.in-Some-2.is at c.in_ok-kernel.ensures.kept) (rw c.in-Some-2.is at c.in_ok-kernel.ensures.settled) c.in-Some.ensures.whole c.in_ok-try_step.ensures.stepped c.in-Came.is
          (λ h. (process_view whole, h.0, state.ensures.state, h.2, h.3, h.4));
    }
