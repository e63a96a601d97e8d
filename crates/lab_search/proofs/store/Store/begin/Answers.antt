use Rattle.std.proofs.Common.{[], ◌∷◌, ◌++◌, inl, arith, ap, refl, rules, subst, ◌∙◌}
use Rattle.lab_sched.specs.Held.{process_view}
use Rattle.lab_sched.specs.LocalRun.{AreLocal}
use Rattle.lab_search.specs.declared.store.Store.{Store}
use Rattle.lab_worlds.specs.Stepped.{IsReady}
use Rattle.lab_search.proofs.Growths.{grown_by, kept_same, later_by, later_more, kernel_grows, still_known, stopped}
use Rattle.lab_search.proofs.FirstWorlds.{begins_row, initial_more}
use Rattle.lab_search.proofs.store.Store.begin.Goals as goal

pub loop-process-init : goal.loop-process-init
loop-process-init c = record { later = c.in_ok-number.ensures.later; kernel = c.in_ok-number.ensures.kernel; row = ([], search rules, λ p. tt) }

pub loop-process-preserved : goal.loop-process-preserved
loop-process-preserved c =
    let t = c.loop-process.self in
    let inv = c.loop-process.invariant in
    let ahead = c.in_ok-ahead.ahead in
    let state = c.in_ok-state.state in
    let u : Store = record t { states = c.keep.new.self } in
    let ready : IsReady ahead.process = (c.in_ok-ahead.ensures.held, c.in_ok-ahead.ensures.at_call c.if-not-ahead.false) in
    let later = later_by t u inv.later.store (kept_same t.kernels) (grown_by IsReady t.states.processes _ ahead.process ready c.in_ok-state.ensures.kept) (inl refl) (inl refl) (still_known t inv.later.store) in
    let local = subst (λ q. AreLocal ahead.taken (process_view q) (process_view ahead.process)) c.in_ok-copy.ensures.equal c.in_ok-ahead.ensures.local in
    record {
      later = later_more c.args.self.now t u inv.later later;
      kernel = kernel_grows t u c.in_ok-number.number c.args.kernel.now later.grows inv.kernel;
      row = (
        inv.row.0 ++ state ∷ [],
        c.in_ok-push.ensures.items ∙ ap (λ ns. ns ++ state ∷ []) inv.row.1,
        initial_more t u inv.row.0 c.args.processes.now c.loop-process.process-index state c.process-item.result later.grows inv.row.2 (omega arith) c.process-item.is
            (process_view ahead.process, c.in_ok-state.ensures.state, record { taken = ahead.taken; local = local; at_call = ready.1 }),
      );
    }

pub keep_first_row-requires-clause-row : goal.keep_first_row-requires-clause-row
keep_first_row-requires-clause-row c =
    let inv = c.loop-process.invariant in
    let first = begins_row c.loop-process.self c.in_ok-number.number inv.row.0 c.args.kernel.now c.args.processes.now c.loop-process.process-index c.loop-process-test.false inv.kernel inv.row.2 in
    rw (c.as_slice.ensures.value, inv.row.1) (first.0, first.1)

pub returns-clause-begins : goal.returns-clause-begins
returns-clause-begins c =
    let inv = c.loop-process.invariant in
    let first = begins_row c.loop-process.self c.in_ok-number.number inv.row.0 c.args.kernel.now c.args.processes.now c.loop-process.process-index c.loop-process-test.false inv.kernel inv.row.2 in
    (first.0, c.in_ok-kept.ensures.kept c.if-not-kept.false first.0 (rw (c.as_slice.ensures.value, inv.row.1) first.1), first.2)

pub returns-clause-later : goal.returns-clause-later
returns-clause-later c = later_more c.args.self.now c.loop-process.self _ c.loop-process.invariant.later c.in_ok-kept.ensures.later

pub returns-then-not-kept-clause-later : goal.returns-then-not-kept-clause-later
returns-then-not-kept-clause-later c = later_more c.args.self.now c.loop-process.self _ c.loop-process.invariant.later c.in_ok-kept.ensures.later

pub returns-then-not-ahead-clause-later : goal.returns-then-not-ahead-clause-later
returns-then-not-ahead-clause-later c =
    let t = c.loop-process.self in
    later_more c.args.self.now t c.stop_by.new.self c.loop-process.invariant.later (stopped t c.stop_by.new.self c.loop-process.invariant.later.store c.stop_by.ensures.same)
