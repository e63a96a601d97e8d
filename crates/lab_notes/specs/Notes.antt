-- What is noted of a run: of each process the first call that was refused, and how many more were, and of its objects what is remarked.
use Rattle.std.specs.Prelude.{ℕ, ◌+◌, min, is_some, length, replicate, slice_set, slice_get, Option, Some, None, List, [], ◌∷◌, if◌then◌else◌, filter}
use Rattle.ipc_kernel.specs.Kernel.{KernelState}
use Rattle.ipc_traps.specs.Services.{is_open}
use Rattle.ipc_traps.specs.declared.service.Service.{Service}
use Rattle.lab_told.specs.Answers.{call_done}
use Rattle.lab_notes.specs.Objects.{is_there, made_with}
use Rattle.lab_notes.specs.Openers.{opened_with}
use Rattle.lab_notes.specs.Remarks.{remark_of, remarks_with}
use Rattle.lab_notes.specs.declared.objects.Made.{Made}
use Rattle.lab_notes.specs.declared.openers.Opened.{Opened}
use Rattle.lab_notes.specs.declared.remarks.Remark.{Remark}
use Rattle.lab_notes.specs.declared.waiting.Waiting.{Waiting}
use Rattle.lab_notes.specs.Waiting.{waits_of}
use Rattle.lab_sched.specs.Worlds.{WorldState, Process, machine_of, step}
use Rattle.lc3_machine.specs.Process.{reg}
use Rattle.lab_told.specs.Scenes.{Scene, told, next, first_scene, scene_after}
use Rattle.lab_told.specs.declared.answers.Outcome.{Outcome}
use Rattle.lab_told.specs.declared.answers.Outcome.TheVariants.{Refused}
use Rattle.lab_told.specs.declared.told.Act.{Act}
use Rattle.lab_told.specs.declared.told.Act.TheVariants.{Calls}
use Rattle.lab_told.specs.declared.told.Called.{Called}
use Rattle.lab_told.specs.declared.told.Event.{Event}
use Rattle.lab_told.specs.declared.told.Told.{Told}
use Rattle.lab_told.specs.declared.told.Told.TheVariants.{Shown}
use Rattle.ipc_names.specs.declared.errno.Errno.{Errno}
use Rattle.ipc_names.specs.declared.errno.Errno.TheVariants.{Again}
use Rattle.lab_notes.specs.declared.rows.Noted.{Noted}
use Rattle.lab_notes.specs.declared.rows.Refusal.{Refusal}
use Rattle.lab_notes.specs.declared.rows.Registers.{Registers}

-- an error that is noted: each but EAGAIN
abbrev pub noted_error : Errno → Option Errno
noted_error Again = None
noted_error other = Some other

-- the error of a call that was refused
abbrev pub refused_with : Outcome → Option Errno
refused_with (Refused e) = noted_error e
refused_with other = None

-- what R1, R2 and R3 of a process hold
abbrev pub registers_of : Option Process → Registers
registers_of None = record { r1 = 0; r2 = 0; r3 = 0 }
registers_of (Some p) = record { r1 = reg (machine_of p) 1; r2 = reg (machine_of p) 2; r3 = reg (machine_of p) 3 }

-- a call that was refused with this error in a step that is shown, and what the registers hold behind it
abbrev pub refusal_of : Event → Called → Errno → Registers → Refusal
refusal_of event c e registers =
    record {
      service = c.service;
      error = e;
      pc = event.pc;
      word = event.word;
      object = c.object;
      is_open = is_some c.place;
      registers = registers;
    }

-- nothing was refused
abbrev pub new_row : Noted
new_row = record { first = None; more = 0 }

abbrev pub new_rows : ℕ → List Noted
new_rows count = replicate count new_row

-- a call was refused behind these: it is the first, or one more, up to the greatest number
abbrev pub row_after : Noted → Option Refusal → Refusal → Noted
row_after row None r = record row { first = Some r }
row_after row (Some f) r = record row { more = min (row.more + 1) 4294967295 }

abbrev pub row_with : Noted → Refusal → Noted
row_with row r = row_after row row.first r

-- the rows with one more refused call of process p, whose row is this one
abbrev pub rows_set : ℕ → Refusal → List Noted → Option Noted → List Noted
rows_set p r rows None = rows
rows_set p r rows (Some row) = slice_set rows p (row_with row r)

abbrev pub rows_with : ℕ → Refusal → List Noted → List Noted
rows_with p r rows = rows_set p r rows (slice_get rows p)

abbrev pub rows_when : ℕ → Registers → Event → Called → Option Errno → List Noted → List Noted
rows_when p registers event c None rows = rows
rows_when p registers event c (Some e) rows = rows_with p (refusal_of event c e registers) rows

abbrev pub rows_in : ℕ → Registers → Event → Act → List Noted → List Noted
rows_in p registers event (Calls c) rows = rows_when p registers event c (refused_with c.outcome) rows
rows_in p registers event other rows = rows

-- after what is told of a step of process p, by what its registers hold behind it
abbrev pub rows_by : ℕ → Registers → Told → List Noted → List Noted
rows_by p registers (Shown event) rows = rows_in p registers event event.act rows
rows_by p registers other rows = rows

-- what the registers of process p hold behind the next step of a scene
abbrev pub registers_behind : Scene → ℕ → Registers
registers_behind s p = registers_of (slice_get (step s.world p).processes p)

-- what is noted of a run: of each process its refused calls, what is there and who made it, what is remarked of objects, and the
-- names that were opened
pub record NotesState : Type 0 where
  pub rows : List Noted
  pub made : List Made
  pub remarks : List Remark
  pub opened : List Opened

-- before the first step
abbrev pub new_notes : ℕ → NotesState
new_notes count = record { rows = new_rows count; made = []; remarks = []; opened = [] }

-- what was made, and the names that were opened, behind an open of process p
abbrev pub opens_with : ℕ → Called → ℕ → NotesState → NotesState
opens_with p c place n = record n { made = made_with p c place n.made; opened = opened_with p c n.opened }

-- behind a call of process p on the object in a place, by the kernel after it
abbrev pub objects_with : KernelState → ℕ → Event → Called → ℕ → NotesState → NotesState
objects_with k p event c place n =
    let remarked : NotesState = record n { remarks = remarks_with (remark_of k p event c place n.made) n.remarks } in
    if is_open c.service then opens_with p c place remarked else remarked

-- behind a call, of which this is the place where it was answered and not refused
abbrev pub objects_when : KernelState → ℕ → Event → Called → Option (Service × ℕ) → NotesState → NotesState
objects_when k p event c None n = n
objects_when k p event c (Some done) n = objects_with k p event c done.1 n

-- behind what process p did
abbrev pub objects_in : KernelState → ℕ → Event → Act → NotesState → NotesState
objects_in k p event (Calls c) n = objects_when k p event c (call_done c) n
objects_in k p event other n = n

-- without what is no more
abbrev pub with_present : KernelState → NotesState → NotesState
with_present k n = record n { made = filter (is_there k) n.made }

-- after what is told of a step of process p, by the kernel after it
abbrev pub objects_by : KernelState → ℕ → Told → NotesState → NotesState
objects_by k p (Shown event) n = with_present k (objects_in k p event event.act n)
objects_by k p other n = n

-- after what is told of a step of process p, by the kernel and by what its registers hold behind it
abbrev pub notes_by : KernelState → ℕ → Registers → Told → NotesState → NotesState
notes_by k p registers told n = objects_by k p told (record n { rows = rows_by p registers told n.rows })

-- after the next step of a scene, of process p
abbrev pub notes_next : Scene → ℕ → NotesState → NotesState
notes_next s p n = notes_by (step s.world p).kernel p (registers_behind s p) (told s p) n

-- after these steps
unfoldable pub notes_after : Scene → List ℕ → NotesState → NotesState
notes_after s [] n = n
notes_after s (p ∷ ps) n = notes_after (next s p) ps (notes_next s p n)

-- what is noted, as these steps are taken from a world
abbrev pub notes : WorldState → List ℕ → NotesState
notes w ps = notes_after (first_scene w) ps (new_notes (length w.processes))

-- what the processes wait for that wait, after these steps from a world
abbrev pub waits_after : WorldState → List ℕ → List Waiting
waits_after w ps = waits_of (scene_after (first_scene w) ps).world (scene_after (first_scene w) ps).tally
