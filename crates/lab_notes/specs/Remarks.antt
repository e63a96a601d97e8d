-- What is remarked of the objects of a run.
use Rattle.std.specs.Bool.{beq}
use Rattle.std.specs.Prelude.{ℕ, nat_lt, Bool, true, false, ◌&&◌, bytes_eq, Option, Some, None, is_some, List, [], ◌∷◌, ◌++◌, if◌then◌else◌}
use Rattle.std.specs.List.{find}
use Rattle.std.specs.Option.{option_map, option_and_then}
use Rattle.ipc_kernel.specs.Kernel.{KernelState}
use Rattle.ipc_traps.specs.Services.{is_on_queues}
use Rattle.ipc_traps.specs.declared.service.Service.{Service}
use Rattle.ipc_traps.specs.declared.service.Service.TheVariants.{MqOpen, SemOpen, SemPost}
use Rattle.lab_told.specs.declared.handles.Level.{Level}
use Rattle.lab_told.specs.declared.handles.Level.TheVariants.{Value}
use Rattle.lab_told.specs.declared.told.Called.{Called}
use Rattle.lab_told.specs.declared.told.Event.{Event}
use Rattle.lab_notes.specs.Objects.{is_in, is_namesake, holder_of}
use Rattle.lab_notes.specs.declared.objects.Made.{Made}
use Rattle.lab_notes.specs.declared.remarks.Change.{Change}
use Rattle.lab_notes.specs.declared.remarks.Change.TheVariants.{Exceeded, MadeAnew}
use Rattle.lab_notes.specs.declared.remarks.Remark.{Remark}

-- whether two changes are of one kind
abbrev pub are_alike : Change → Change → Bool
are_alike (Exceeded first maker value) (Exceeded f m v) = true
are_alike (MadeAnew holder) (MadeAnew h) = true
are_alike one other = false

-- whether another remark says the same of that name
abbrev pub is_like : Remark → Remark → Bool
is_like one other =
    are_alike one.change other.change && beq (is_on_queues one.service) (is_on_queues other.service)
    && bytes_eq one.name other.name

-- with this remark, unless another one says the same of that name
abbrev pub remarks_with : Option Remark → List Remark → List Remark
remarks_with None rs = rs
remarks_with (Some r) rs = if is_some (find (is_like r) rs) then rs else rs ++ (r ∷ [])

-- what is remarked where an open made an object in a place: that a process has another one open, which had its name
abbrev pub opened_change : KernelState → Called → ℕ → List Made → Option Change
opened_change k c place made =
    if is_some (find (is_in place) made) then None
    else option_map MadeAnew (option_and_then (holder_of k) (find (is_namesake c) made))

-- what is remarked where a post raised a semaphore to a level: that this is more than the value, above 0, that it was made with
abbrev pub posted_change : Option Level → Made → Option Change
posted_change (Some (Value v)) m = if nat_lt 0 m.value && nat_lt m.value v then Some (Exceeded m.value m.pid v) else None
posted_change other m = None

-- the remark of a call of process p, by what became of the object of this name
abbrev pub remark_with : ℕ → Event → Called → List ℕ → Change → Remark
remark_with p event c name change =
    record { change = change; name = name; service = c.service; pid = p; pc = event.pc; word = event.word }

abbrev pub posted_remark : ℕ → Event → Called → Option Made → Option Remark
posted_remark p event c None = None
posted_remark p event c (Some m) = option_map (remark_with p event c m.name) (posted_change c.level m)

-- what is remarked of a call of process p on the object in a place, by what was made before it and the kernel after it
abbrev pub remark_by : Service → KernelState → ℕ → Event → Called → ℕ → List Made → Option Remark
remark_by MqOpen k p event c place made = option_map (remark_with p event c c.object) (opened_change k c place made)
remark_by SemOpen k p event c place made = option_map (remark_with p event c c.object) (opened_change k c place made)
remark_by SemPost k p event c place made = posted_remark p event c (find (is_in place) made)
remark_by other k p event c place made = None

abbrev pub remark_of : KernelState → ℕ → Event → Called → ℕ → List Made → Option Remark
remark_of k p event c place made = remark_by c.service k p event c place made
