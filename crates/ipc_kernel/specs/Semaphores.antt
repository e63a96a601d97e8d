-- What each call on semaphores gives, by the first row that fits. A name in brackets is the page of POSIX.1-2017.
use Rattle.std.specs.Prelude.{ℕ, ◌+◌, ◌-◌, ◌==◌, nat_lt, Bool, ◌&&◌, List, Option, Some, None, slice_set, if◌then◌else◌, position}
use Rattle.ipc_names.specs.Flags.{has_flag, o_creat, o_excl}
use Rattle.ipc_names.specs.declared.errno.Errno.TheVariants.{NoEntry, Again, Exists, Invalid, TooManyOpen, NoSpace, Overflow}
use Rattle.ipc_objects.specs.Limits.{sem_value_max}
use Rattle.ipc_kernel.specs.Limits.{opens_max}
use Rattle.ipc_kernel.specs.declared.place.Place.TheVariants.{Sem}
use Rattle.ipc_kernel.specs.declared.process.Slot.{Slot}
use Rattle.ipc_kernel.specs.declared.call.Reply.TheVariants.{Plain, Value}
use Rattle.ipc_kernel.specs.Processes.{slot_of, slot_for, free_slot_of, with_slot}
use Rattle.ipc_kernel.specs.Places.{is_empty, semaphore_named}
use Rattle.ipc_kernel.specs.Kernel.{KernelState}
use Rattle.ipc_kernel.specs.Outcomes.{Outcome, refusal, waiting, completion, with_value_at}

-- the semaphore in a place is opened on the least free slot, where there is one [sem_open]
abbrev pub new_slot : KernelState → ℕ → ℕ → Option ℕ → Outcome
new_slot k p place None = refusal k TooManyOpen
new_slot k p place (Some s) = completion (record k { processes = with_slot k.processes p s (Some (record { place = place; opens = 1 })) }) (Plain s)

-- slot s has one open more, where it can count it [sem_open]
abbrev pub one_more_open : KernelState → ℕ → ℕ → Option Slot → Outcome
one_more_open k p s None = refusal k Invalid
one_more_open k p s (Some slot) =
    if slot.opens == opens_max then refusal k TooManyOpen
    else completion (record k { processes = with_slot k.processes p s (Some (record slot { opens = slot.opens + 1 })) }) (Plain s)

-- a process that has the semaphore open gets the same slot again [sem_open]
abbrev pub sem_open_place : KernelState → ℕ → ℕ → Option ℕ → Outcome
sem_open_place k p place None = new_slot k p place (free_slot_of k.processes p)
sem_open_place k p place (Some s) = one_more_open k p s (slot_of k.processes p s)

-- a new semaphore stands in the least empty place, where there is one, and is open on slot s [sem_open]
abbrev pub sem_create_at : KernelState → ℕ → ℕ → List ℕ → ℕ → Option ℕ → Outcome
sem_create_at k p s name value None = refusal k NoSpace
sem_create_at k p s name value (Some place) =
    completion (record {
      places = slice_set k.places place (Sem (Some name) value);
      processes = with_slot k.processes p s (Some (record { place = place; opens = 1 }));
    }) (Plain s)

-- a new semaphore needs a free slot before it needs a place [sem_open]
abbrev pub sem_create : KernelState → ℕ → List ℕ → ℕ → Option ℕ → Outcome
sem_create k p name value None = refusal k TooManyOpen
sem_create k p name value (Some s) = sem_create_at k p s name value (position is_empty k.places)

-- a semaphore that exists is opened, but with O_CREAT and O_EXCL refused; one that does not is made with O_CREAT [sem_open]
abbrev pub sem_look_up : KernelState → ℕ → List ℕ → Bool → Bool → ℕ → Option ℕ → Outcome
sem_look_up k p name create excl value None = if create then sem_create k p name value (free_slot_of k.processes p) else refusal k NoEntry
sem_look_up k p name create excl value (Some place) = if create && excl then refusal k Exists else sem_open_place k p place (slot_for k.processes p place)

-- O_CREAT and O_EXCL alone are looked at, and with O_CREAT the value is tested first [sem_open]
abbrev pub sem_open : KernelState → ℕ → List ℕ → ℕ → ℕ → Outcome
sem_open k p name flags value =
    if has_flag o_creat flags && nat_lt sem_value_max value then refusal k Invalid
    else sem_look_up k p name (has_flag o_creat flags) (has_flag o_excl flags) value (semaphore_named k.places name)

-- the slot has one open less, and is free when it has none left [sem_close]
abbrev pub sem_close : KernelState → ℕ → ℕ → Option Slot → Outcome
sem_close k p s None = refusal k Invalid
sem_close k p s (Some slot) =
    completion (record k { processes = with_slot k.processes p s (if nat_lt 1 slot.opens then Some (record slot { opens = slot.opens - 1 }) else None) }) (Plain 0)

-- one is taken from a value above 0; at 0 the call waits [sem_wait]
abbrev pub sem_wait : KernelState → Option (Slot × ℕ) → Outcome
sem_wait k None = refusal k Invalid
sem_wait k (Some held) = if held.1 == 0 then waiting k else completion (with_value_at k held.0.place (held.1 - 1)) (Plain 0)

-- one is taken from a value above 0; at 0 the call is refused [sem_trywait]
abbrev pub sem_trywait : KernelState → Option (Slot × ℕ) → Outcome
sem_trywait k None = refusal k Invalid
sem_trywait k (Some held) = if held.1 == 0 then refusal k Again else completion (with_value_at k held.0.place (held.1 - 1)) (Plain 0)

-- one is added to the value, whoever waits [sem_post]
abbrev pub sem_post : KernelState → Option (Slot × ℕ) → Outcome
sem_post k None = refusal k Invalid
sem_post k (Some held) = if held.1 == sem_value_max then refusal k Overflow else completion (with_value_at k held.0.place (held.1 + 1)) (Plain 0)

-- the value is told, which is never negative [sem_getvalue]
abbrev pub sem_getvalue : KernelState → Option (Slot × ℕ) → Outcome
sem_getvalue k None = refusal k Invalid
sem_getvalue k (Some held) = completion k (Value held.1)
