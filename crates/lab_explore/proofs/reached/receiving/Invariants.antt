use Rattle.std.proofs.Common.{◌≡◌, map, take}
use Rattle.lab_sched.specs.Held.{process_view}
use Rattle.lab_conditions.specs.Losses.{is_receiving}
use Rattle.lab_explore.proofs.reached.receiving.Given as goal

abbrev pub invariant-loop-number : goal.invariant-loop-number
invariant-loop-number l = l.receiving.items ≡ map (λ s. is_receiving (process_view s)) (take l.number l.store.states.processes)
