-- Calls that remove no object: on which one each works, what it depends on, and what it changes.
use Rattle.std.specs.Prelude.{ℕ, ◌≡◌, Bool, ◌||◌, List, Option, Some, None, slice_get, slice_set, unwrap_or, if◌then◌else◌}
use Rattle.std.specs.Option.{option_map, option_and_then, option_or}
use Rattle.std.specs.List.{list_all, position}
use Rattle.ipc_kernel.specs.declared.call.Call.{Call}
use Rattle.ipc_kernel.specs.declared.call.Call.TheVariants.{MqOpen, MqClose, MqSend, MqReceive, MqGetattr, MqSetattr, SemOpen, SemClose, SemWait, SemTrywait, SemPost, SemGetvalue, Exit}
use Rattle.ipc_kernel.specs.declared.call.Handle.{Handle}
use Rattle.ipc_kernel.specs.declared.call.Handle.TheVariants.{Mqd, Slot as Sem}
use Rattle.ipc_kernel.specs.declared.place.Place.{Place}
use Rattle.ipc_kernel.specs.declared.process.OpenTables.{OpenTables}
use Rattle.ipc_kernel.specs.Places.{place_at, is_empty, has_name, queue_named, semaphore_named}
use Rattle.ipc_kernel.specs.Kernel.{KernelState, IsSettled}
use Rattle.ipc_kernel.specs.Answer.{answer}

-- the descriptor or slot that a call on an open object names
abbrev pub handle_of : Call → Option Handle
handle_of (MqSend d words prio) = Some (Mqd d)
handle_of (MqReceive d len) = Some (Mqd d)
handle_of (MqGetattr d) = Some (Mqd d)
handle_of (MqSetattr d flags) = Some (Mqd d)
handle_of (SemWait s) = Some (Sem s)
handle_of (SemTrywait s) = Some (Sem s)
handle_of (SemPost s) = Some (Sem s)
handle_of (SemGetvalue s) = Some (Sem s)
handle_of other = None

-- the object place that an open descriptor or slot refers to
abbrev pub place_of : OpenTables → Handle → Option ℕ
place_of t (Mqd d) = option_map (λ held. held.place) (unwrap_or (slice_get t.descriptors d) None)
place_of t (Sem s) = option_map (λ held. held.place) (unwrap_or (slice_get t.slots s) None)

-- a place whose object has a name
abbrev pub if_named : List Place → ℕ → Option ℕ
if_named ps i = if has_name (place_at ps i) then Some i else None

-- whether each object has a name
abbrev pub are_named : List Place → Bool
are_named ps = list_all (λ p. is_empty p || has_name p) ps

-- the object place that a call of a process with these tables works on, if it removes no object: its object is open, or is
-- opened by its name, or is closed and has a name; an open of a name that no object has works on the least empty place; the end
-- of a process removes none where each has a name, and no place is its own then
abbrev pub operand_in : KernelState → OpenTables → Call → Option ℕ
operand_in k t (MqOpen name flags attr) = option_or (queue_named k.places name) (position is_empty k.places)
operand_in k t (SemOpen name flags value) = option_or (semaphore_named k.places name) (position is_empty k.places)
operand_in k t (MqClose d) = option_and_then (if_named k.places) (place_of t (Mqd d))
operand_in k t (SemClose s) = option_and_then (if_named k.places) (place_of t (Sem s))
operand_in k t Exit = if are_named k.places then Some 0 else None
operand_in k t other = option_and_then (place_of t) (handle_of other)

-- process p has these tables, and this object is in place i
pub record HasOperand (k : KernelState) (p i : ℕ) (t : OpenTables) (o : Place) : Type 0 where
  pub tables : slice_get k.processes p ≡ Some t
  pub object : slice_get k.places i ≡ Some o

-- the kernel with another object in place i, and other tables of process p
abbrev pub with_operand : KernelState → ℕ → ℕ → Place → OpenTables → KernelState
with_operand k p i o t = record { places = slice_set k.places i o; processes = slice_set k.processes p t }

-- a call of process p over kernel k and of process q over kernel j: it has the same answer, and what it leaves in place i and in
-- the tables of q over j it leaves in place i and in the tables of p over k, of which it changes nothing else
pub record IsAnsweredAlike (k j : KernelState) (p q : ℕ) (c : Call) (i : ℕ) : Type 0 where
  pub answers : (answer k p c).0 ≡ (answer j q c).0
  pub kernels : (t : OpenTables) (o : Place) → HasOperand (answer j q c).1 q i t o → (answer k p c).1 ≡ with_operand k p i o t

-- a call that works on one object place depends on the tables of its process and on what is in that place alone, and changes
-- nothing else, where the kernels are settled
abbrev pub AnswersByOperand : Type 0
AnswersByOperand = (k j : KernelState) (p q : ℕ) (c : Call) (i : ℕ) (t : OpenTables) (o : Place) → IsSettled k → IsSettled j
    → operand_in k t c ≡ Some i → operand_in j t c ≡ Some i → HasOperand k p i t o → HasOperand j q i t o
    → IsAnsweredAlike k j p q c i

-- each call leaves a kernel settled
abbrev pub StaysSettled : Type 0
StaysSettled = (k : KernelState) (p : ℕ) (c : Call) → IsSettled k → IsSettled (answer k p c).1
