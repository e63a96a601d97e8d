-- Conditions on worlds.
use Rattle.std.specs.Prelude.{ℕ, ◌≡◌, ◌<◌, Bool, true, false, not, ◌&&◌, nat_le, IsTrue, List, Option, Some, None, is_some, All, length, slice_get}
use Rattle.std.specs.List.{count_by, enumerate_from}
use Rattle.lc3_machine.specs.declared.want.How.{How}
use Rattle.lc3_machine.specs.declared.want.How.TheVariants as how
use Rattle.ipc_objects.specs.Queue.{QueueState}
use Rattle.ipc_kernel.specs.Limits.{object_places}
use Rattle.ipc_kernel.specs.declared.place.Place.TheVariants.{Mq, Sem}
use Rattle.ipc_kernel.specs.declared.call.Call.{Call}
use Rattle.ipc_kernel.specs.Places.{place_at}
use Rattle.ipc_kernel.specs.Kernel.{KernelState}
use Rattle.ipc_kernel.specs.Answer.{answer, is_done}
use Rattle.lab_sched.specs.Worlds.{Process, Running, Waiting, Ended, WorldState, NextAction, moves, calls, next_action, machine_of}
use Rattle.lab_sched.specs.Verdicts.{is_ended}
use Rattle.lab_conditions.specs.declared.condition.Relation.{Relation}
use Rattle.lab_conditions.specs.declared.condition.Relation.TheVariants.{More, Less, Equal}
use Rattle.lab_conditions.specs.declared.condition.State.{State}
use Rattle.lab_conditions.specs.declared.condition.State.TheVariants as state
use Rattle.lab_conditions.specs.declared.condition.Part.{Part}
use Rattle.lab_conditions.specs.declared.condition.Part.TheVariants.{Semaphore, Queue, Of, MoreThan}
use Rattle.lab_conditions.specs.declared.condition.Condition.{Condition}

-- the first number stands so to the second
abbrev pub Compares : Relation → ℕ → ℕ → Type 0
Compares More a b = b < a
Compares Less a b = a < b
Compares Equal a b = a ≡ b

-- whether a call of process p must wait
abbrev pub must_wait : KernelState → ℕ → Call → Bool
must_wait k p c = not (is_done (answer k p c).0)

-- whether there is a value, and it passes
abbrev pub option_any : {A : Type 0} → (A → Bool) → Option A → Bool
option_any test None = false
option_any test (Some x) = test x

-- the call that an action is
abbrev pub call_next : NextAction → Option Call
call_next (moves q) = None
call_next (calls c) = Some c

-- the call that a process is about to make, or waits for
abbrev pub call_of : Process → Option Call
call_of (Running m) = call_next (next_action m)
call_of (Waiting m c) = Some c
call_of (Ended e) = None

-- a process is about to make this call, or waits for it
abbrev pub StandsAt : Process → Call → Type 0
StandsAt (Running m) c = next_action m ≡ calls c
StandsAt (Waiting m d) c = d ≡ c
StandsAt (Ended e) c = ⊥

-- whether process p stands at a call that must wait, whether or not it has tried it
abbrev pub is_blocked : KernelState → ℕ → Process → Bool
is_blocked k p s = option_any (must_wait k p) (call_of s)

-- whether an end is by HALT
abbrev pub is_halt : How → Bool
is_halt how.Halt = true
is_halt how.Illegal = false
is_halt how.Device = false
is_halt how.BadTrap = false
is_halt how.NoInput = false

-- whether a process has ended, and not by HALT
abbrev pub has_crashed : Process → Bool
has_crashed (Running m) = false
has_crashed (Waiting m c) = false
has_crashed (Ended e) = not (is_halt e.how)

-- whether a process stands at a call, with its program counter from one address to another
abbrev pub stands_from : ℕ → ℕ → Process → Bool
stands_from first last s = is_some (call_of s) && nat_le first (machine_of s).pc && nat_le (machine_of s).pc last

-- whether process p, over a kernel, stands so
abbrev pub is_so : State → KernelState → ℕ → Process → Bool
is_so state.Blocked k p s = is_blocked k p s
is_so state.Ended k p s = is_ended s
is_so state.Crashed k p s = has_crashed s
is_so (state.At first last) k p s = stands_from first last s

-- how many processes of a world stand so
abbrev pub how_many : State → WorldState → ℕ
how_many x w = count_by (λ e. is_so x w.kernel e.0 e.1) (enumerate_from 0 w.processes)

-- a semaphore of this name is in place i, and its value stands so to the number
pub record IsSemaphoreIn (k : KernelState) (i : ℕ) (name : List ℕ) (r : Relation) (x : ℕ) : Type 0 where
  pub value : ℕ
  pub within : i < object_places
  pub there : place_at k.places i ≡ Sem (Some name) value
  pub compares : Compares r value x

-- a queue of this name is in place i, and the number of its messages stands so to the number
pub record IsQueueIn (k : KernelState) (i : ℕ) (name : List ℕ) (r : Relation) (x : ℕ) : Type 0 where
  pub queue : QueueState
  pub within : i < object_places
  pub there : place_at k.places i ≡ Mq (Some name) queue
  pub compares : Compares r (length queue.messages) x

-- a part of a condition holds of a world
abbrev pub PartHolds : Part → WorldState → Type 0
PartHolds (Semaphore name r x) w = (i : ℕ) × IsSemaphoreIn w.kernel i name r x
PartHolds (Queue name r x) w = (i : ℕ) × IsQueueIn w.kernel i name r x
PartHolds (Of p x) w = (s : Process) × (slice_get w.processes p ≡ Some s) × IsTrue (is_so x w.kernel p s)
PartHolds (MoreThan x n) w = n < how_many x w

-- a condition holds of a world where each of its parts does
abbrev pub Holds : Condition → WorldState → Type 0
Holds c w = All (λ part. PartHolds part w) c.parts.items

-- the world of some processes over a kernel
abbrev pub world_of : KernelState → List Process → WorldState
world_of k ps = record { processes = ps; kernel = k }

-- a part names no process but those below a number
abbrev pub NamesOnly : ℕ → Part → Type 0
NamesOnly count (Semaphore name r x) = Unit {0}
NamesOnly count (Queue name r x) = Unit {0}
NamesOnly count (Of p x) = p < count
NamesOnly count (MoreThan x n) = Unit {0}

-- whether it depends on the kernel whether processes stand so
abbrev pub needs_kernel : State → Bool
needs_kernel state.Blocked = true
needs_kernel state.Ended = false
needs_kernel state.Crashed = false
needs_kernel (state.At first last) = false

-- whether it depends on the kernel whether a part holds
abbrev pub part_needs_kernel : Part → Bool
part_needs_kernel (Semaphore name r x) = true
part_needs_kernel (Queue name r x) = true
part_needs_kernel (Of p x) = needs_kernel x
part_needs_kernel (MoreThan x n) = needs_kernel x

-- a condition holds of some processes over any kernel, where it holds of them over one
abbrev pub HoldsOverAny : Condition → Type 0
HoldsOverAny c = (k j : KernelState) (ps : List Process) → Holds c (world_of k ps) → Holds c (world_of j ps)
