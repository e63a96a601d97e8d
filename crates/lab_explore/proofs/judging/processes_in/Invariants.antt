use Rattle.std.proofs.Common.{take}
use Rattle.lab_sched.specs.Held.{process_view}
use Rattle.lab_worlds.specs.Calls.{Alongside}
use Rattle.lab_explore.specs.Private.Judged.{IsSilently}
use Rattle.lab_explore.proofs.judging.processes_in.Given as goal

abbrev pub invariant-loop-state : goal.invariant-loop-state
invariant-loop-state l = Alongside (λ i s. IsSilently l.store i (process_view s.now)) (take l.state-index l.states) l.processes.items
