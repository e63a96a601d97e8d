use Rattle.std.proofs.Common.{ℕ, ◌≡◌, ◌+◌, ◌<◌, All, ap, sym, ◌∙◌, map, length, subst, get_or, arith}
use Rattle.std.proofs.lemmas.List.{length-map}
use Rattle.ipc_kernel.specs.Kernel.{empty_kernel}
use Rattle.lab_sched.specs.Execution.{count, IsExecution}
use Rattle.lab_sched.specs.Held.{process_view, IsHeld}
use Rattle.lab_sched.specs.Worlds.{HaveOneProfile}
use Rattle.lab_sched.specs.History.{replay}
use Rattle.lab_sched.specs.Schedules.{steps_of}
use Rattle.lab_sched.specs.Starts.{initial_world}
use Rattle.lab_threads.specs.Private.Merged.{final_world}
use Rattle.lab_threads.proofs.ReportedSteps.{joined_is, settled_execution, settled_finished, merged_from, worker_steps}
use Rattle.lab_threads.proofs.reports.report_of_workers.Goals as goal

pub join-world-requires : goal.join-world-requires
join-world-requires c =
    let ps = c.in_ok-ends.field-0.items in
    let ended_so = c.in_ok-ends.ensures.processes in
    let count : length ps ≡ length c.args.workers.items = ap length ended_so ∙ length-map c.args.workers.items (λ k. k.process) in
    record {
      world =
          record {
            held = subst (λ xs. All IsHeld xs) (sym ended_so) c.requires.held;
            profile = subst (λ xs. HaveOneProfile (map process_view xs)) (sym ended_so) c.requires.profile;
            some = omega (arith, count, c.requires.some);
            few = omega (arith, count, c.requires.few);
            count = omega (arith, count, c.count.ensures.count, c.if-count-len.false, c.len.ensures, c.args.workers.ok.0);
          };
    }

pub returns-clause-execution : goal.returns-clause-execution
returns-clause-execution c starts are =
    let same : length c.args.kernel.processes ≡ length starts = omega (arith, are.len, c.count.ensures.count, c.if-count-len.false, c.len.ensures, c.args.workers.ok.0) in
    let kernel : c.args.kernel ≡ replay (empty_kernel (length starts)) c.args.history.items =
    subst (λ n. c.args.kernel ≡ replay (empty_kernel n) c.args.history.items) same c.requires.kernel in
    let joined : c.join-world.result ≡ final_world (length starts) c.args.workers.items c.args.history.items =
    joined_is c.join-world.result c.in_ok-ends.field-0.items c.args.kernel (length starts) c.args.workers.items c.args.history.items
    c.join-world.ensures.processes c.in_ok-ends.ensures.processes c.join-world.ensures.kernel kernel in
    let merged = merged_from starts c.in_ok-schedule.ensures.merged c.deref.ensures.value c.deref-2.ensures.value are same c.requires.legal in
    settled_execution (initial_world starts) c.join-world.result c.settle.new.self (steps_of c.in_ok-schedule.schedule) (steps_of c.settle.new.schedule) _ _
    c.args.history.items c.settle.new.entries.items
    (subst (λ x. IsExecution (initial_world starts) (steps_of c.in_ok-schedule.schedule) x c.args.history.items) (sym joined) merged.execution) c.settle.ensures.settled

pub returns-clause-finished : goal.returns-clause-finished
returns-clause-finished c starts are =
    let same : length c.args.kernel.processes ≡ length starts = omega (arith, are.len, c.count.ensures.count, c.if-count-len.false, c.len.ensures, c.args.workers.ok.0) in
    let merged = merged_from starts c.in_ok-schedule.ensures.merged c.deref.ensures.value c.deref-2.ensures.value are same c.requires.legal in
    let left = c.in_ok-schedule.ensures.left ∙ ap (λ v. map (λ k. k.left) v) c.deref.ensures.value in
    let lefts : length c.in_ok-schedule.left.items ≡ length c.args.workers.items = ap length left ∙ length-map c.args.workers.items (λ k. k.left) in
    let ended : length c.join-world.result.processes ≡ length c.args.workers.items =
    ap length (c.join-world.ensures.processes ∙ ap (λ ps. map process_view ps) c.in_ok-ends.ensures.processes) ∙ length-map (map (λ k. k.process) c.args.workers.items) process_view ∙ length-map c.args.workers.items (λ k. k.process) in
    let counted = worker_steps (steps_of c.in_ok-schedule.schedule) c.in_ok-schedule.left.items starts c.args.workers.items c.args.limit are merged.counts left in
    settled_finished c.join-world.result c.settle.new.self (steps_of c.in_ok-schedule.schedule) (steps_of c.settle.new.schedule) _ _
    c.args.history.items c.settle.new.entries.items c.args.limit c.settle.result (ap length c.deref_mut.ensures.value ∙ lefts ∙ sym ended)
    (subst (λ xs. (p : ℕ) → p < length xs → count p (steps_of c.in_ok-schedule.schedule) + get_or xs p 0 ≡ c.args.limit) (sym c.deref_mut.ensures.value) counted)
    c.settle.ensures.settled c.if-settle-ne0.false c.settle.ensures.stopped
