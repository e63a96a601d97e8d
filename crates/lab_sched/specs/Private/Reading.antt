-- What a reader of schedules gives.
use Rattle.std.specs.Prelude.{◌≡◌, Result, Ok, Err}
use Rattle.lab_sched.specs.declared.schedule.SchedFault.{SchedFault}
use Rattle.lab_sched.specs.ScheduleTexts.{Fails}

-- an answer, by what it shows, is what is read, or it is want of memory
abbrev pub Gives : {A B : Type 0} → (A → B) → Result A SchedFault → Result B SchedFault → Type 0
Gives shown (Ok a) read = read ≡ Ok (shown a)
Gives shown (Err e) read = Fails e read
