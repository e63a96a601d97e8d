-- How many units of semaphores each process took, and how many it gave.
use Rattle.std.specs.Prelude.{ℕ, ◌+◌, ◌-◌, ◌==◌, ◌&&◌, Bool, Option, Some, None, is_some, unwrap_or, List, [], ◌∷◌, ◌++◌, slice_set, position, filter}
use Rattle.std.specs.List.{find}
use Rattle.ipc_kernel.specs.Kernel.{KernelState}
use Rattle.ipc_kernel.specs.Places.{place_at, semaphore_value}
use Rattle.lab_told.specs.declared.tally.UnitCount.{UnitCount}
use Rattle.ipc_traps.specs.declared.service.Service.{Service}
use Rattle.ipc_traps.specs.declared.service.Service.TheVariants.{SemWait, SemTrywait, SemPost}

-- whether a count is that of process p for the semaphore in a place
abbrev pub is_of : ℕ → ℕ → UnitCount → Bool
is_of place p c = (c.place == place) && (c.pid == p)

-- the count of a process that took and gave nothing
abbrev pub no_units : ℕ → ℕ → UnitCount
no_units place p = record { place = place; pid = p; taken = 0; given = 0 }

-- the count of process p for the semaphore in a place
unfoldable pub units_of : ℕ → ℕ → List UnitCount → UnitCount
units_of place p cs = unwrap_or (find (is_of place p) cs) (no_units place p)

-- how many units more a process took than it gave; 0 where it gave as many or more
abbrev pub balance : UnitCount → ℕ
balance c = c.taken - c.given

-- a count with so many units more that were taken and given
abbrev pub with_more : ℕ → ℕ → UnitCount → UnitCount
with_more taken given c = record c { taken = c.taken + taken; given = c.given + given }

-- a count in the place of the one that stands at this position, or behind the others where there is none
abbrev pub units_with_at : UnitCount → List UnitCount → Option ℕ → List UnitCount
units_with_at c cs None = cs ++ c ∷ []
units_with_at c cs (Some i) = slice_set cs i c

-- the counts after process p took and gave so many units more of the semaphore in a place
unfoldable pub units_with : ℕ → ℕ → ℕ → ℕ → List UnitCount → List UnitCount
units_with place p taken given cs = units_with_at (with_more taken given (units_of place p cs)) cs (position (is_of place p) cs)

-- the counts for semaphores that are there: those of an emptied place end with its semaphore
abbrev pub remaining_units : KernelState → List UnitCount → List UnitCount
remaining_units k cs = filter (λ c. is_some (semaphore_value (place_at k.places c.place))) cs

-- the counts after a call of process p on the object in a place, which was answered and not refused
abbrev pub units_called : ℕ → Service → ℕ → List UnitCount → List UnitCount
units_called p SemWait place cs = units_with place p 1 0 cs
units_called p SemTrywait place cs = units_with place p 1 0 cs
units_called p SemPost place cs = units_with place p 0 1 cs
units_called p other place cs = cs

-- the same, where there is such a call; one that waits or was refused moves no unit
abbrev pub units_by : ℕ → Option (Service × ℕ) → List UnitCount → List UnitCount
units_by p None cs = cs
units_by p (Some call) cs = units_called p call.0 call.1 cs

-- after what process p did, by its call if it was answered and not refused; k is the kernel after it
abbrev pub units_after : KernelState → ℕ → Option (Service × ℕ) → List UnitCount → List UnitCount
units_after k p call cs = remaining_units k (units_by p call cs)
