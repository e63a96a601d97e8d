-- The units of semaphores that processes have taken and not given back, the last one first. A semaphore that was made with the
-- value 0 has none: who waits for it waits for a signal.
use Rattle.std.specs.Prelude.{ℕ, ◌==◌, ◌&&◌, nat_lt, not, Bool, true, if◌then◌else◌, Option, Some, None, is_some, List, [], ◌∷◌, ◌++◌, map}
use Rattle.std.specs.List.{find, filter}
use Rattle.serde_json.specs.Data.{Data}
use Rattle.ipc_kernel.specs.Kernel.{KernelState}
use Rattle.ipc_kernel.specs.Places.{place_at, semaphore_value}
use Rattle.ipc_traps.specs.declared.service.Service.{Service}
use Rattle.ipc_traps.specs.declared.service.Service.TheVariants.{SemWait, SemTrywait, SemPost}
use Rattle.lab_told.specs.Answers.{act_done}
use Rattle.lab_told.specs.Tallies.{TallyState}
use Rattle.lab_told.specs.Units.{units_of, balance}
use Rattle.lab_told.specs.declared.told.Act.{Act}
use Rattle.lab_moments.specs.Changes.{known_at, made_with}
use Rattle.lab_moments.specs.Values.{list, natural}
use Rattle.lab_moments.specs.declared.holds.Known.{Known}
use Rattle.lab_moments.specs.declared.holds.Hold.{Hold}

-- whether a unit is of the semaphore in a place, and process p has taken it
abbrev pub is_hold_of : ℕ → ℕ → Hold → Bool
is_hold_of place p h = (h.place == place) && (h.pid == p)

-- the last unit that process p took of the semaphore in a place, where it gives one back
abbrev pub given_to : ℕ → ℕ → Service → List Hold → Option Hold
given_to p place SemPost hs = find (is_hold_of place p) hs
given_to p place other hs = None

-- the unit that process p gives back by a call that was answered
abbrev pub given_by : ℕ → Option (Service × ℕ) → List Hold → Option Hold
given_by p None hs = None
given_by p (Some call) hs = given_to p call.1 call.0 hs

-- whether process p has taken more units than it gave, of a semaphore that wasn't made with the value 0
abbrev pub has_taken : ℕ → ℕ → TallyState → List (Option Known) → Bool
has_taken p place t ks = nat_lt 0 (made_with (known_at ks place)) && nat_lt 0 (balance (units_of place p t.units))

-- the unit that process p took in step n of the semaphore in a place
abbrev pub taken_from : ℕ → ℕ → ℕ → TallyState → List (Option Known) → List Hold
taken_from n p place t ks = if has_taken p place t ks then record { pid = p; place = place; step = n } ∷ [] else []

-- the same, where the call takes one
abbrev pub taken_in : ℕ → ℕ → ℕ → Service → TallyState → List (Option Known) → List Hold
taken_in n p place SemWait t ks = taken_from n p place t ks
taken_in n p place SemTrywait t ks = taken_from n p place t ks
taken_in n p place other t ks = []

-- the unit that process p took by a call that was answered in step n, by the tally after it
abbrev pub taken_by : ℕ → ℕ → Option (Service × ℕ) → TallyState → List (Option Known) → List Hold
taken_by n p None t ks = []
taken_by n p (Some call) t ks = taken_in n p call.1 call.0 t ks

-- whether a unit is another than this one, which was taken in another step
abbrev pub is_other : Option Hold → Hold → Bool
is_other None h = true
is_other (Some given) h = not (given.step == h.step)

-- whether a unit stays taken: it isn't given back, and its semaphore is there
abbrev pub is_kept : KernelState → Option Hold → Hold → Bool
is_kept k given h = is_other given h && is_some (semaphore_value (place_at k.places h.place))

-- whether it doesn't
abbrev pub is_over : KernelState → Option Hold → Hold → Bool
is_over k given h = not (is_kept k given h)

-- the units that don't stay taken after what process p did; k is the kernel after it
abbrev pub holds_over : KernelState → ℕ → Act → List Hold → List Hold
holds_over k p act hs = filter (is_over k (given_by p (act_done act) hs)) hs

-- the units that stay taken
abbrev pub holds_kept : KernelState → ℕ → Act → List Hold → List Hold
holds_kept k p act hs = filter (is_kept k (given_by p (act_done act) hs)) hs

-- the units that are taken after what process p did in step n; k and t are the kernel and the tally after it
abbrev pub holds_after : KernelState → TallyState → ℕ → ℕ → Act → List (Option Known) → List Hold → List Hold
holds_after k t n p act ks hs = taken_by n p (act_done act) t ks ++ holds_kept k p act hs

-- a unit: its process, and the step in which that took it
abbrev pub hold_data : Hold → Data
hold_data h = list (natural h.pid ∷ natural h.step ∷ [])

-- units, one by one
abbrev pub holds_data : List Hold → Data
holds_data hs = list (map hold_data hs)
