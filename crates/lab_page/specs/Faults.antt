-- Why there is no page.
use Rattle.std.specs.Prelude.{◌≡◌, ◌<◌, ℕ, Some, List, length, ⊤}
use Rattle.lab_sched.specs.Schedules.{steps_of}
use Rattle.lab_sched.specs.Worlds.{WorldState}
use Rattle.lab_sched.specs.declared.schedule.Block.{Block}
use Rattle.lab_trace.specs.Traces.{missing_after}
use Rattle.lab_template.specs.Limits.{most_bytes}
use Rattle.lab_page.specs.declared.paging.PageFault.{PageFault}
use Rattle.lab_page.specs.declared.paging.PageFault.TheVariants.{NoProcess, TooLarge, NoMemory}

-- why there is no JSON of a run by a schedule: the schedule names a process that isn't there, the JSON has too many bytes, or
-- memory was refused
abbrev pub Explains : PageFault → WorldState → List Block → List ℕ → Type 0
Explains (NoProcess done) w s json = missing_after w (steps_of s) ≡ Some done
Explains TooLarge w s json = most_bytes < length json
Explains NoMemory w s json = ⊤

-- why there is no page with this JSON: it has too many bytes, or memory was refused
abbrev pub IsFault : PageFault → List ℕ → Type 0
IsFault (NoProcess done) json = ⊥
IsFault TooLarge json = most_bytes < length json
IsFault NoMemory json = ⊤
