-- The message queue descriptors of each process, and its slots, which stand for the semaphore addresses that sem_open gives.
use Rattle.std.specs.Prelude.{ℕ, ◌==◌, Bool, false, ◌||◌, List, [], Option, Some, None, unwrap_or, slice_get, slice_set, is_none, replicate}
use Rattle.std.specs.List.{list_any, position}
use Rattle.ipc_kernel.specs.Limits.{open_max}
use Rattle.ipc_kernel.specs.declared.process.OpenTables.{OpenTables}
use Rattle.ipc_kernel.specs.declared.process.Slot.{Slot}
use Rattle.ipc_kernel.specs.declared.process.Descriptor.{Descriptor}

-- a process with nothing open
abbrev pub closed_process : OpenTables
closed_process = record { descriptors = replicate open_max None; slots = replicate open_max None }

-- the tables of process p
abbrev pub process_at : List OpenTables → ℕ → OpenTables
process_at ps p = unwrap_or (slice_get ps p) (record { descriptors = []; slots = [] })

-- what descriptor d of process p holds, where it is open
abbrev pub descriptor_of : List OpenTables → ℕ → ℕ → Option Descriptor
descriptor_of ps p d = unwrap_or (slice_get (process_at ps p).descriptors d) None

-- what slot s of process p holds, where it is open
abbrev pub slot_of : List OpenTables → ℕ → ℕ → Option Slot
slot_of ps p s = unwrap_or (slice_get (process_at ps p).slots s) None

-- the least free descriptor of process p
abbrev pub free_descriptor_of : List OpenTables → ℕ → Option ℕ
free_descriptor_of ps p = position is_none (process_at ps p).descriptors

-- the least free slot of process p
abbrev pub free_slot_of : List OpenTables → ℕ → Option ℕ
free_slot_of ps p = position is_none (process_at ps p).slots

-- whether a slot refers to a place
abbrev pub slot_refers : ℕ → Option Slot → Bool
slot_refers place None = false
slot_refers place (Some s) = s.place == place

-- whether a descriptor refers to a place
abbrev pub descriptor_refers : ℕ → Option Descriptor → Bool
descriptor_refers place None = false
descriptor_refers place (Some d) = d.place == place

-- whether a descriptor or slot of a process refers to a place
abbrev pub process_refers : ℕ → OpenTables → Bool
process_refers place p = list_any (descriptor_refers place) p.descriptors || list_any (slot_refers place) p.slots

-- whether a descriptor or slot of any process refers to a place
abbrev pub is_referred : List OpenTables → ℕ → Bool
is_referred ps place = list_any (process_refers place) ps

-- the slot of process p that refers to a place
abbrev pub slot_for : List OpenTables → ℕ → ℕ → Option ℕ
slot_for ps p place = position (slot_refers place) (process_at ps p).slots

-- descriptor d of process p is now this
abbrev pub with_descriptor : List OpenTables → ℕ → ℕ → Option Descriptor → List OpenTables
with_descriptor ps p d descriptor = slice_set ps p (record (process_at ps p) { descriptors = slice_set (process_at ps p).descriptors d descriptor })

-- slot s of process p is now this
abbrev pub with_slot : List OpenTables → ℕ → ℕ → Option Slot → List OpenTables
with_slot ps p s slot = slice_set ps p (record (process_at ps p) { slots = slice_set (process_at ps p).slots s slot })
