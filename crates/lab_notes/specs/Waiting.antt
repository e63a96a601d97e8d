-- What the processes wait for that wait at the end of a run.
use Rattle.std.specs.Prelude.{ℕ, zero, suc, nat_lt, Option, Some, None, List, [], ◌∷◌, ◌++◌, length, slice_get}
use Rattle.lc3_machine.specs.Process.{Process as Machine, reg}
use Rattle.ipc_kernel.specs.Places.{place_at}
use Rattle.ipc_traps.specs.declared.service.Service.{Service}
use Rattle.lab_sched.specs.Worlds.{Process, Running, Waiting as Waits, Ended, WorldState}
use Rattle.lab_told.specs.Objects.{held_place, object_text}
use Rattle.lab_told.specs.Services.{service_at}
use Rattle.lab_told.specs.Tallies.{TallyState}
use Rattle.lab_told.specs.Units.{units_of, balance}
use Rattle.lab_notes.specs.Objects.{first_below}
use Rattle.lab_notes.specs.declared.waiting.Waiting.{Waiting}

-- the first process that took more units of the semaphore in a place than it gave
abbrev pub taker_of : WorldState → TallyState → ℕ → Option ℕ
taker_of w t place = first_below (length w.processes) (λ p. nat_lt 0 (balance (units_of place p t.units)))

-- what process p waits for in a call on the object in a place
abbrev pub wait_at : WorldState → TallyState → ℕ → Service → Option ℕ → Option Waiting
wait_at w t p s None = None
wait_at w t p s (Some place) =
    Some (record { pid = p; service = s; object = object_text place (place_at w.kernel.places place); taker = taker_of w t place })

-- what it waits for in a call
abbrev pub wait_in : WorldState → TallyState → ℕ → Machine → Option Service → Option Waiting
wait_in w t p m None = None
wait_in w t p m (Some s) = wait_at w t p s (held_place w.kernel p s (reg m 0))

-- what process p waits for, if it waits
abbrev pub wait_of : WorldState → TallyState → ℕ → Option Process → Option Waiting
wait_of w t p (Some (Waits m c)) = wait_in w t p m (service_at m)
wait_of w t p other = None

-- with what one more waits for, if it waits
abbrev pub with_wait : Option Waiting → List Waiting → List Waiting
with_wait None ws = ws
with_wait (Some x) ws = ws ++ (x ∷ [])

-- what the processes below n wait for that wait
unfoldable pub waits_below : WorldState → TallyState → ℕ → List Waiting
waits_below w t zero = []
waits_below w t (suc n) = with_wait (wait_of w t n (slice_get w.processes n)) (waits_below w t n)

-- what the processes wait for that wait
abbrev pub waits_of : WorldState → TallyState → List Waiting
waits_of w t = waits_below w t (length w.processes)
