-- Steps of one process in a row.
use Rattle.std.specs.Prelude.{ℕ, ◌==◌, if◌then◌else◌, List, []}
use Rattle.lab_sched.specs.Schedules.{block}
use Rattle.lab_session.specs.Taken.{spaced_text}

-- a block, if it has steps
abbrev pub run_text : ℕ → ℕ → List ℕ
run_text pid n = if n == 0 then [] else spaced_text (block pid n)
