-- What is asked of the calls that are answered with success: a state, which is a number and at first 0, goes on with each of them.
use Rattle.std.specs.Prelude.{ℕ, ◌+◌, ◌*◌, ◌/◌, ◌%◌, ◌==◌, ◌&&◌, ◌||◌, Bool, true, nat_le, nat_lt, if◌then◌else◌, Some, List, [], ◌∷◌, length, slice_get}
use Rattle.ipc_kernel.specs.declared.call.Call.{Call}
use Rattle.ipc_kernel.specs.declared.call.Answer.{Answer}
use Rattle.ipc_kernel.specs.Kernel.{KernelState}
use Rattle.ipc_traps.specs.declared.service.Service.TheVariants.{SemWait, SemTrywait, SemPost}
use Rattle.lab_sched.specs.Worlds.{WorldState, StepEffect, nothing, local_step, kernel_step, step_effect_in}
use Rattle.lab_conditions.specs.Conditions.{option_any}
use Rattle.lab_conditions.specs.Refusals.{is_process}
use Rattle.lab_ways.specs.declared.calls.CallKind.{CallKind}
use Rattle.lab_ways.specs.declared.wanted.Pattern.{Pattern}
use Rattle.lab_ways.specs.declared.wanted.Pattern.TheVariants.{AtLeast, InOrder, Together, NoneOf, NoneBut}
use Rattle.lab_ways.specs.declared.wanted.Wanted.{Wanted}
use Rattle.lab_ways.specs.Calls.{is_called, is_on, is_of, is_of_any, is_exit, is_success}

-- how many calls of a kind were made, up to n
abbrev pub next_count : CallKind → ℕ → ℕ → KernelState → ℕ → Call → ℕ
next_count x n s k p c = if is_of x k p c then (if nat_lt s n then s + 1 else n) else s

-- whether a call is of the kind whose turn it is
abbrev pub is_of_next : List CallKind → ℕ → KernelState → ℕ → Call → Bool
is_of_next xs s k p c = option_any (λ x. is_of x k p c) (slice_get xs s)

-- how many of the calls that must come in order were made, or 1 more than all where one came out of its turn
abbrev pub next_turn : List CallKind → ℕ → KernelState → ℕ → Call → ℕ
next_turn xs s k p c = if is_of_any xs k p c then (if is_of_next xs s k p c then s + 1 else length xs + 1) else s

-- whether a unit of the semaphore of this name is held, 1 or 0, after a call
abbrev pub next_held : List ℕ → ℕ → KernelState → ℕ → Call → ℕ
next_held name held k p c =
    if (is_called SemWait c || is_called SemTrywait c) && is_on (Some name) k p c then 1 else
    if is_called SemPost c && is_on (Some name) k p c then 0 else
    held

-- the same of each name: the lowest binary digits of the number, the lowest first, say what is held
unfoldable pub next_units : List (List ℕ) → ℕ → KernelState → ℕ → Call → ℕ
next_units [] s k p c = s
next_units (name ∷ names) s k p c = next_held name (s % 2) k p c + 2 * next_units names (s / 2) k p c

-- whether units of all are held
unfoldable pub are_held : List (List ℕ) → ℕ → Bool
are_held [] s = true
are_held (name ∷ names) s = s % 2 == 1 && are_held names (s / 2)

-- the state after a call of process p that is answered with success
abbrev pub next_by : Pattern → ℕ → KernelState → ℕ → Call → ℕ
next_by (AtLeast x n) s k p c = next_count x n s k p c
next_by (InOrder xs) s k p c = next_turn xs.items s k p c
next_by (Together names) s k p c = if are_held names.items s then s else next_units names.items s k p c
next_by (NoneOf xs) s k p c = if is_of_any xs.items k p c then 1 else s
next_by (NoneBut xs) s k p c = if is_exit c || is_of_any xs.items k p c then s else 1

-- the state after a call of process p with this answer
abbrev pub next_answered : Wanted → ℕ → KernelState → ℕ → Call → Answer → ℕ
next_answered x s k p c a = if is_process x.process p && is_success a then next_by x.pattern s k p c else s

-- the state after a step of process p over a kernel
abbrev pub next_state : Wanted → ℕ → KernelState → ℕ → StepEffect → ℕ
next_state x s k p nothing = s
next_state x s k p (local_step n) = s
next_state x s k p (kernel_step m c a) = next_answered x s k p c a

-- the state after the step of process p in a world
abbrev pub next_in : Wanted → ℕ → WorldState → ℕ → ℕ
next_in x s w p = next_state x s w.kernel p (step_effect_in w p)

-- whether a state is one that may be, ever
abbrev pub is_allowed : Pattern → ℕ → Bool
is_allowed (AtLeast x n) s = true
is_allowed (InOrder xs) s = true
is_allowed (Together names) s = true
is_allowed (NoneOf xs) s = s == 0
is_allowed (NoneBut xs) s = s == 0

-- whether it is one that may be where no process goes on
abbrev pub is_accepted : Pattern → ℕ → Bool
is_accepted (AtLeast x n) s = nat_le n s
is_accepted (InOrder xs) s = s == length xs.items
is_accepted (Together names) s = are_held names.items s
is_accepted (NoneOf xs) s = true
is_accepted (NoneBut xs) s = true
