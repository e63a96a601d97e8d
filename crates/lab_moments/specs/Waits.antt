-- Who lets a process wait: who could serve its call, who has taken what it waits for, and the circles of such processes.
use Rattle.std.specs.Prelude.{ℕ, ◌==◌, ◌&&◌, nat_lt, not, Bool, false, if◌then◌else◌, Option, Some, None, List, [], ◌∷◌, length, zero, suc, take, position, slice_get}
use Rattle.std.specs.List.{find, list_any}
use Rattle.std.specs.Option.{option_map, option_and_then, option_map_or, option_to_list}
use Rattle.serde_json.specs.Data.{Data, null}
use Rattle.ipc_kernel.specs.Kernel.{KernelState}
use Rattle.ipc_traps.specs.declared.service.Service.{Service}
use Rattle.lab_sched.specs.Verdicts.{is_waiting}
use Rattle.lab_sched.specs.Worlds.{WorldState}
use Rattle.lab_told.specs.Openers.{has_open}
use Rattle.lab_told.specs.Tallies.{TallyState}
use Rattle.lab_moments.specs.Changes.{known_at, made_with}
use Rattle.lab_moments.specs.Objects.{awaited_at, takers}
use Rattle.lab_moments.specs.Values.{list, natural, naturals, all_below}
use Rattle.lab_moments.specs.declared.holds.Hold.{Hold}
use Rattle.lab_moments.specs.declared.holds.Known.{Known}

-- process q, where it is another than process p and could serve its call on the object in a place
unfoldable pub other_at : KernelState → ℕ → ℕ → Service → ℕ → List Data
other_at k p place s q = if not (q == p) && has_open k place s q then natural q ∷ [] else []

-- the other processes that could serve a call of process p
abbrev pub others : WorldState → ℕ → ℕ → Service → List Data
others w p place s = all_below (length w.processes) (other_at w.kernel p place s)

-- who has taken units of the semaphore in a place, where that was made with a value above 0
abbrev pub taken_data : WorldState → TallyState → List (Option Known) → ℕ → Data
taken_data w t ks place = if nat_lt 0 (made_with (known_at ks place)) then list (takers w t place) else null

-- process p, which waits in a call, who has taken what it waits for, and the others that could serve its call
abbrev pub wait_in : WorldState → TallyState → List (Option Known) → ℕ → Option (Service × ℕ) → List Data
wait_in w t ks p None = []
wait_in w t ks p (Some call) = list (natural p ∷ taken_data w t ks call.1 ∷ list (others w p call.1 call.0) ∷ []) ∷ []

-- the processes that wait, each with who could let it go on
unfoldable pub waits_data : WorldState → TallyState → List (Option Known) → Data
waits_data w t ks = list (all_below (length w.processes) (λ p. wait_in w t ks p (awaited_at w p)))

-- whether a unit is of the semaphore in a place, and its process waits
abbrev pub is_blocking : WorldState → ℕ → Hold → Bool
is_blocking w place h = (h.place == place) && option_map_or is_waiting (slice_get w.processes h.pid) false

-- the process that waits, and was the last such to take a unit of the semaphore for which a call waits
abbrev pub blocker_in : WorldState → List Hold → Option (Service × ℕ) → Option ℕ
blocker_in w hs None = None
blocker_in w hs (Some call) = option_map (λ h. h.pid) (find (is_blocking w call.1) hs)

-- of each process the one that waits and has taken what it waits for
unfoldable pub blockers : WorldState → List Hold → List (Option ℕ)
blockers w hs = all_below (length w.processes) (λ p. blocker_in w hs (awaited_at w p) ∷ [])

-- the process that has taken what process p waits for, by what is told of each
abbrev pub blocker : List (Option ℕ) → ℕ → Option ℕ
blocker bs p = option_and_then (λ b. b) (slice_get bs p)

-- the process that stands n places behind the first, where each waits for what the next has taken
unfoldable pub behind : List (Option ℕ) → Option ℕ → ℕ → Option ℕ
behind bs first zero = first
behind bs first (suc n) = option_and_then (blocker bs) (behind bs first n)

-- at most n processes, of which each waits for what the next has taken
abbrev pub followed : List (Option ℕ) → ℕ → Option ℕ → List ℕ
followed bs n first = all_below n (λ i. option_to_list (behind bs first i))

-- process p and those behind it, as far as it comes again, where none of them has a lesser number
abbrev pub circle_up_to : ℕ → List ℕ → Option ℕ → List Data
circle_up_to p ps None = []
circle_up_to p ps (Some i) = if list_any (λ q. nat_lt q p) (take i ps) then [] else naturals (p ∷ take i ps) ∷ []

-- the circle of which process p is the first: each process waits for what the next has taken, and the last for what p has taken
abbrev pub circle_from : ℕ → List ℕ → List Data
circle_from p ps = circle_up_to p ps (position (λ q. q == p) ps)

-- the circles of processes, each by its least one
abbrev pub circles : List (Option ℕ) → List Data
circles bs = all_below (length bs) (λ p. circle_from p (followed bs (length bs) (blocker bs p)))

-- the circles of processes in a world, by the units that are taken
unfoldable pub circles_data : WorldState → List Hold → Data
circles_data w hs = list (circles (blockers w hs))
