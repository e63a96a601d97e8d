-- What a report tells of the way to its world.
use Rattle.lab_sched.specs.Worlds.{WorldState}
use Rattle.lab_sched.specs.Execution.{IsExecution}
use Rattle.lab_sched.specs.Schedules.{steps_of}
use Rattle.lab_threads.specs.declared.reports.Report.{Report}

-- the schedule leads from the start to the world, with the history
abbrev pub IsReportFrom : WorldState → Report → Type 0
IsReportFrom start r = IsExecution start (steps_of r.schedule) r.world r.history.items
