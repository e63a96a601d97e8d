use Rattle.std.proofs.Common.{◌≡◌, ◌∙◌, ap, sym, subst, length}
use Rattle.std.proofs.lemmas.List.{length-map}
use Rattle.ipc_kernel.specs.Kernel.{empty_kernel}
use Rattle.lab_sched.specs.Held.{process_view}
use Rattle.lab_sched.specs.History.{IsLegal, replay}
use Rattle.lab_sched.specs.Worlds.{WorldState}
use Rattle.lab_sched.proofs.Executions.{execution_kernel, execution_legal}
use Rattle.lab_threads.proofs.ReportedSteps.{workers_held, workers_profile}
use Rattle.lab_threads.proofs.Merges.{ok_then}
use Rattle.lab_threads.proofs.reports.run_threads.Goals as goal

pub report_of_workers-requires-clause-held : goal.report_of_workers-requires-clause-held
report_of_workers-requires-clause-held g c = workers_held c.args.limit c.processes-starts.result.items c.in_ok-workers.workers.items c.in_ok-workers.ensures.results c.processes-starts.ensures.starts.running

pub report_of_workers-requires-clause-profile : goal.report_of_workers-requires-clause-profile
report_of_workers-requires-clause-profile g c = workers_profile c.args.limit c.processes-starts.result.items c.in_ok-workers.workers.items c.in_ok-workers.ensures.results c.processes-starts.ensures.starts.profile

pub returns : goal.returns
returns g c =
    let starts = c.processes-starts.result.items in
    let r = c.report_of_workers.result in
    let executed = c.report_of_workers.ensures.execution in
    let are = c.in_ok-workers.ensures.results in
    let start = c.processes-starts.ensures.world in
    let count : length starts ≡ length c.args.fresh.processes = sym (length-map starts process_view) ∙ ap (λ (w : WorldState). length w.processes) start in
    record {
      effective = ok_then r executed (λ r execution. rw start at (execution starts are).effective);
      world = ok_then r executed (λ r execution. rw start at (execution starts are).leads);
      history = ok_then r executed (λ r execution. rw start at (execution starts are).entered);
      legal = ok_then r executed (λ r execution. subst (λ n. IsLegal (empty_kernel n) r.history.items) count (execution_legal (execution starts are)));
      kernel = ok_then r executed (λ r execution. subst (λ n. r.world.kernel ≡ replay (empty_kernel n) r.history.items) count (execution_kernel (execution starts are)));
      finished = ok_then r c.report_of_workers.ensures.finished (λ r finished. finished starts are);
      verdict = c.report_of_workers.ensures.verdict;
    }
