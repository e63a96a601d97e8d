use Rattle.std.proofs.Common.{List, []}
use Rattle.lab_sched.specs.Schedules.{steps_of}
use Rattle.lab_sched.specs.declared.stepped.Entry.{Entry}
use Rattle.lab_sched.specs.declared.process.Process.{Process as ProcessValue}
use Rattle.lab_threads.specs.Private.Merged.{IsMerged}
use Rattle.lab_threads.proofs.Merges.{IsEnding}
use Rattle.lab_threads.proofs.reports.merge_ends.Given as goal

abbrev pub invariant-loop-pid : goal.invariant-loop-pid
invariant-loop-pid l = (starts : List ProcessValue) (history : List Entry) → IsMerged starts l.workers l.next (steps_of l.fn.schedule) history []
    → IsEnding starts l.workers l.next (steps_of l.schedule) history l.pid
