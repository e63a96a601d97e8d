-- Processes with another output.
use Rattle.std.specs.Prelude.{ℕ, List}
use Rattle.lc3_machine.specs.Process.{with_whole_output}
use Rattle.lab_sched.specs.declared.process.Process.{Process as Kept}
use Rattle.lab_sched.specs.declared.process.Process.TheVariants as kept
use Rattle.lab_sched.specs.Worlds.{Process, Running, Waiting, Ended}

-- a process with this output in place of its own
abbrev pub with_output : Process → List ℕ → Process
with_output (Running m) bytes = Running (with_whole_output m bytes)
with_output (Waiting m c) bytes = Waiting (with_whole_output m bytes) c
with_output (Ended e) bytes = Ended (record e { process = with_whole_output e.process bytes })

-- the same of a process that a world holds
abbrev pub kept_with_output : Kept → List ℕ → Kept
kept_with_output (kept.Running h) bytes = kept.Running (record h { process = with_whole_output h.process bytes })
kept_with_output (kept.Waiting h c) bytes = kept.Waiting (record h { process = with_whole_output h.process bytes }) c
kept_with_output (kept.Ended e) bytes = kept.Ended (record e { process = with_whole_output e.process bytes })
