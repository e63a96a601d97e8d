use Rattle.lab_threads.proofs.reports.merge_workers.Goals as goal

pub returns-clause-merged : goal.returns-clause-merged
returns-clause-merged c starts limit are legal = c.in_ok-schedule.ensures.merged starts c.args.history.now (rw c.deref.ensures.value (c.in_ok-merged.ensures.merged starts limit are legal))
