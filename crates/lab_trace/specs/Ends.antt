-- Where the processes stand that haven't ended.
use Rattle.std.specs.Prelude.{ℕ, ◌==◌, nat_lt, ◌&&◌, not, false, if◌then◌else◌, Option, Some, None, List, [], ◌++◌, codes, length, slice_get, slice_index}
use Rattle.std.specs.Fmt.{decimal}
use Rattle.lc3_machine.specs.Process.{Process as Machine, reg}
use Rattle.ipc_kernel.specs.Kernel.{KernelState}
use Rattle.lab_sched.specs.Worlds.{Process, Running, Waiting, Ended, WorldState}
use Rattle.lab_texts.specs.Rows.{texts_below}
use Rattle.lab_told.specs.Calls.{arguments}
use Rattle.lab_trace.specs.Outcomes.{call_text, level_part}
use Rattle.lab_told.specs.Objects.{held_place, level_at}
use Rattle.lab_told.specs.Openers.{has_open}
use Rattle.lab_told.specs.Services.{service_at}
use Rattle.lab_told.specs.Tallies.{TallyState, account_of}
use Rattle.lab_trace.specs.Forms.{Form, process_text, head, line_end}
use Rattle.lab_told.specs.Units.{units_of, balance}
use Rattle.lab_told.specs.declared.tally.UnitCount.{UnitCount}
use Rattle.ipc_traps.specs.declared.service.Service.{Service}
use Rattle.ipc_traps.specs.declared.service.Service.TheVariants.{MqSend, MqReceive}

-- process q, where it could serve a call of process p
unfoldable pub other_text : KernelState → ℕ → ℕ → Service → ℕ → List ℕ
other_text k p place s q = if not (q == p) && has_open k place s q then codes " " ++ process_text q else []

-- processes, each with a blank before it, or nobody
abbrev pub or_nobody : List ℕ → List ℕ
or_nobody found = if length found == 0 then codes " nobody" else found

-- the other processes that could serve a call of process p
unfoldable pub others_text : WorldState → ℕ → ℕ → Service → List ℕ
others_text w p place s = or_nobody (texts_below (length w.processes) (other_text w.kernel p place s))

-- what stands before those who could serve a call
abbrev pub others_title : Service → List ℕ
others_title MqReceive = codes ", senders"
others_title MqSend = codes ", receivers"
others_title s = codes ", open in"

-- how many units, where it is more than one
unfoldable pub times_text : ℕ → List ℕ
times_text n = if nat_lt 1 n then codes "*" ++ decimal n else []

-- that a process has ended
abbrev pub ended_text : Option Process → List ℕ
ended_text None = []
ended_text (Some (Running m)) = []
ended_text (Some (Waiting m c)) = []
ended_text (Some (Ended e)) = codes "(ended)"

-- process p, where it took more units than it gave, by how many
unfoldable pub taker_of : ℕ → ℕ → Option Process → List ℕ
taker_of p n s = if n == 0 then [] else codes " " ++ process_text p ++ times_text n ++ ended_text s

-- process p, where it took more units of the semaphore in a place than it gave
abbrev pub taker_text : WorldState → List UnitCount → ℕ → ℕ → List ℕ
taker_text w cs place p = taker_of p (balance (units_of place p cs)) (slice_get w.processes p)

-- the processes that took more units of the semaphore in a place than they gave
unfoldable pub takers_text : WorldState → List UnitCount → ℕ → List ℕ
takers_text w cs place = or_nobody (texts_below (length w.processes) (taker_text w cs place))

-- who took units of the object that a call waits for; a queue has none
abbrev pub takers_part : WorldState → List UnitCount → ℕ → Service → List ℕ
takers_part w cs place MqReceive = []
takers_part w cs place MqSend = []
takers_part w cs place s = codes ", taken by" ++ takers_text w cs place

-- the object that a process waits for, who took its units, and who could serve its call
abbrev pub object_part : WorldState → List UnitCount → ℕ → Service → Option ℕ → List ℕ
object_part w cs p s None = []
object_part w cs p s (Some place) =
    level_part (level_at w.kernel place) ++ takers_part w cs place s ++ others_title s ++ others_text w p place s

-- since when a process waits, where that is known
abbrev pub since_part : Option ℕ → List ℕ
since_part None = []
since_part (Some n) = codes " since " ++ decimal n

-- what a process waits for
abbrev pub wait_text : WorldState → TallyState → ℕ → Machine → Option Service → List ℕ
wait_text w t p m None = []
wait_text w t p m (Some s) =
    codes "waits" ++ since_part (account_of t p).since ++ codes " in " ++ call_text s (arguments w.kernel p m s) ++ codes ": "
    ++ object_part w t.units p s (held_place w.kernel p s (reg m 0))

-- the end of the line of process p at its program counter
abbrev pub stand_end : Form → ℕ → Machine → List ℕ
stand_end v p m = line_end v false p m.pc (slice_index m.memory m.pc)

-- the line of process p, if it hasn't ended
abbrev pub stand : Form → WorldState → TallyState → ℕ → Process → List ℕ
stand v w t p (Running m) = head v (codes "end") p m.pc (account_of t p).local ++ codes "runs" ++ stand_end v p m
stand v w t p (Waiting m c) = head v (codes "end") p m.pc (account_of t p).local ++ wait_text w t p m (service_at m) ++ stand_end v p m
stand v w t p (Ended e) = []

-- where process p stands, if it hasn't ended
abbrev pub stand_line : Form → WorldState → TallyState → ℕ → Option Process → List ℕ
stand_line v w t p None = []
stand_line v w t p (Some s) = stand v w t p s

-- where each process stands that hasn't ended
unfoldable pub end_lines : Form → WorldState → TallyState → List ℕ
end_lines v w t = texts_below (length w.processes) (λ p. stand_line v w t p (slice_get w.processes p))
