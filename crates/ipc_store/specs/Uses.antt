-- What processes do with the objects that they have open, and the calls that no other process can notice as long as each does
-- no more.
use Rattle.std.specs.Prelude.{ℕ, ◌≡◌, ◌==◌, ◌-◌, nat_lt, nat_le, Bool, true, false, ◌&&◌, ◌||◌, not, List, [], ◌∷◌, Option, Some, None, length, slice_get, unwrap_or, option_and_then, if◌then◌else◌}
use Rattle.std.specs.List.{list_all, list_any, filter}
use Rattle.ipc_objects.specs.Limits.{sem_value_max}
use Rattle.ipc_objects.specs.declared.queue.Message.{Message}
use Rattle.ipc_kernel.specs.declared.call.Call.{Call}
use Rattle.ipc_kernel.specs.declared.call.Call.TheVariants.{MqSend, MqReceive, MqGetattr, MqSetattr, SemWait, SemTrywait, SemPost, SemGetvalue}
use Rattle.ipc_kernel.specs.declared.call.Answer.TheVariants.{Wait as waits}
use Rattle.ipc_kernel.specs.declared.place.Place.{Place}
use Rattle.ipc_kernel.specs.declared.place.Place.TheVariants.{Empty, Mq, Sem}
use Rattle.ipc_kernel.specs.declared.process.Descriptor.{Descriptor}
use Rattle.ipc_kernel.specs.declared.process.OpenTables.{OpenTables}
use Rattle.ipc_kernel.specs.Processes.{process_at}
use Rattle.ipc_kernel.specs.Places.{place_at, is_name}
use Rattle.ipc_kernel.specs.Kernel.{KernelState}
use Rattle.ipc_kernel.specs.Answer.{answer}
use Rattle.ipc_kernel.specs.Alike.{IsAlike, IsConsistent}
use Rattle.ipc_kernel.specs.Operands.{are_named, handle_of, place_of}
use Rattle.ipc_kernel.specs.OwnCalls.{is_unlink, is_own}
use Rattle.ipc_store.specs.declared.uses.Use.{Use}
use Rattle.ipc_store.specs.declared.uses.Use.TheVariants.{Wait, Look, Post, Send, SendAtOnce, Receive, ReceiveAtOnce, Attributes}
use Rattle.ipc_store.specs.declared.uses.ProcessUse.{ProcessUse}

-- the name of the object in a place
abbrev pub object_name : Place → Option (List ℕ)
object_name Empty = None
object_name (Mq name queue) = name
object_name (Sem name value) = name

-- whether a descriptor is open with O_NONBLOCK
abbrev pub is_nonblock : Option Descriptor → Bool
is_nonblock None = false
is_nonblock (Some held) = held.nonblock

-- what a call does with an open object, by the tables of its process
abbrev pub use_of : OpenTables → Call → Option Use
use_of t (MqSend d words prio) = Some (if is_nonblock (unwrap_or (slice_get t.descriptors d) None) then SendAtOnce else Send prio)
use_of t (MqReceive d len) = Some (if is_nonblock (unwrap_or (slice_get t.descriptors d) None) then ReceiveAtOnce else Receive)
use_of t (MqGetattr d) = Some Attributes
use_of t (MqSetattr d flags) = Some Attributes
use_of t (SemWait s) = Some Wait
use_of t (SemTrywait s) = Some Look
use_of t (SemGetvalue s) = Some Look
use_of t (SemPost s) = Some Post
use_of t other = None

-- the place of the open object that a call names, by the tables of its process
abbrev pub place_used : OpenTables → Call → Option ℕ
place_used t c = option_and_then (place_of t) (handle_of c)

-- whether a semaphore, if one is in a place, can be posted twice more
abbrev pub is_low : Place → Bool
is_low (Sem name value) = nat_le value (sem_value_max - 2)
is_low other = true

-- whether each can
abbrev pub are_low : List Place → Bool
are_low ps = list_all is_low ps

-- whether a message of this priority would be received before the first of some
abbrev pub goes_first : ℕ → List Message → Bool
goes_first prio [] = false
goes_first prio (m ∷ ms) = nat_lt m.priority prio

-- whether it would be received after all of them
abbrev pub goes_last : ℕ → List Message → Bool
goes_last prio ms = list_all (λ m. nat_le prio m.priority) ms

-- whether there are none
abbrev pub are_none : List Message → Bool
are_none [] = true
are_none (m ∷ ms) = false

-- whether a call on an object doesn't wait there, nor come near the greatest value
abbrev pub goes_on_with : Place → Call → Bool
goes_on_with (Sem name value) (SemPost s) = nat_lt value sem_value_max
goes_on_with (Sem name value) (SemWait s) = nat_lt 0 value && nat_le value (sem_value_max - 2)
goes_on_with (Sem name value) (SemTrywait s) = nat_le value (sem_value_max - 2)
goes_on_with (Sem name value) (SemGetvalue s) = true
goes_on_with (Mq name queue) (MqReceive d len) = not (are_none queue.messages)
goes_on_with (Mq name queue) (MqSend d words prio) = nat_lt (length queue.messages) queue.max_messages
goes_on_with other c = false

-- whether it matters which comes first, a call on an object or a use of it by another process: a post can be told by those who look
-- at the value, a receive by all but those who send no message that is received before the first, and a send that goes last by
-- all but those who wait for a message
abbrev pub is_noticed : Place → Call → Use → Bool
is_noticed o (SemPost s) Wait = false
is_noticed o (SemPost s) Post = false
is_noticed (Mq name queue) (MqReceive d len) (Send prio) = goes_first prio queue.messages
is_noticed (Mq name queue) (MqSend d words prio) Receive = not (goes_last prio queue.messages)
is_noticed o c u = true

-- whether a use is of process p itself, or of another object, or doesn't notice a call on the object
abbrev pub is_missed_by : ℕ → Place → Call → ProcessUse → Bool
is_missed_by p o c it = it.pid == p || not (is_name it.name (object_name o)) || not (is_noticed o c it.made)

-- whether a process is among some
abbrev pub is_among : List ℕ → ℕ → Bool
is_among ps p = list_any (λ q. p == q) ps

-- the uses of processes that aren't among some
abbrev pub uses_but : List ℕ → List ProcessUse → List ProcessUse
uses_but ps uses = filter (λ it. not (is_among ps it.pid)) uses

-- whether a call of process p on an object goes on, and is noticed by no use that another makes of the object
abbrev pub is_unnoticed : List ProcessUse → ℕ → Place → Call → Bool
is_unnoticed uses p o c = goes_on_with o c && list_all (λ it. is_missed_by p o c it) uses

-- whether the call on what is in a place, if on any, is such a one
abbrev pub is_unnoticed_at : List ProcessUse → ℕ → List Place → Call → Option ℕ → Bool
is_unnoticed_at uses p ps c None = false
is_unnoticed_at uses p ps c (Some i) = is_unnoticed uses p (place_at ps i) c

-- whether a call of process p changes its tables alone, or no other process can notice what it does with an open object
abbrev pub is_own_by : List ProcessUse → KernelState → ℕ → Call → Bool
is_own_by uses k p c = is_own k.places c || is_unnoticed_at uses p k.places c (place_used (process_at k.processes p) c)

-- a use by process p of the objects with a name is among the uses
abbrev pub IsListed : List ProcessUse → ℕ → List ℕ → Use → Type 0
IsListed uses p n u = (j : ℕ) × (slice_get uses j ≡ Some (record { pid = p; name = n; made = u }))

-- a call of process p takes no name away, and what it does with an open object is among the uses
pub record IsWithin (uses : List ProcessUse) (k : KernelState) (p : ℕ) (c : Call) : Type 0 where
  pub keeps : is_unlink c ≡ false
  pub listed : (i : ℕ) (n : List ℕ) (u : Use) → place_used (process_at k.processes p) c ≡ Some i → object_name (place_at k.places i) ≡ Some n
      → use_of (process_at k.processes p) c ≡ Some u → IsListed uses p n u

-- a call c of process p that no other can notice, and a call d of process q: each has the answer that it has without the other
-- before it, both orders leave the same kernel, and after d the call c is still unnoticed and within the uses
pub record Commute (uses : List ProcessUse) (k : KernelState) (p q : ℕ) (c d : Call) : Type 0 where
  pub second : (answer (answer k p c).1 q d).0 ≡ (answer k q d).0
  pub first : (answer (answer k q d).1 p c).0 ≡ (answer k p c).0
  pub kernel : (answer (answer k p c).1 q d).1 ≡ (answer (answer k q d).1 p c).1
  pub own : is_own_by uses (answer k q d).1 p c ≡ true
  pub within : IsWithin uses k p c → IsWithin uses (answer k q d).1 p c

-- where each object has a name, and no semaphore is near its greatest value, an unnoticed call commutes with each call of another
-- process that is answered and within the uses
abbrev pub UnnoticedCallsCommute : Type 0
UnnoticedCallsCommute = (uses : List ProcessUse) (k : KernelState) (p q : ℕ) (c d : Call) → (p ≡ q → ⊥) → are_named k.places ≡ true → are_low k.places ≡ true
    → is_own_by uses k p c ≡ true → IsWithin uses k q d → ((answer k q d).0 ≡ waits → ⊥) → Commute uses k p q c d

-- an unnoticed call of process p is answered; what of other processes is within the uses after it was so before it, and so was each
-- value low
pub record IsHarmless (uses : List ProcessUse) (k : KernelState) (p : ℕ) (c : Call) : Type 0 where
  pub answered : (answer k p c).0 ≡ waits → ⊥
  pub keeps : is_unlink c ≡ false
  pub within : (q : ℕ) (d : Call) → (p ≡ q → ⊥) → IsWithin uses (answer k p c).1 q d → IsWithin uses k q d
  pub low : are_low (answer k p c).1.places ≡ true → are_low k.places ≡ true

abbrev pub UnnoticedCallsHarmless : Type 0
UnnoticedCallsHarmless = (uses : List ProcessUse) (k : KernelState) (p : ℕ) (c : Call) → are_named k.places ≡ true → is_own_by uses k p c ≡ true
    → IsHarmless uses k p c

-- kernels that are alike have the same unnoticed calls, and the same within the uses, and low values in both or in neither
pub record HaveUsesAlike (uses : List ProcessUse) (k j : KernelState) (p : ℕ) (c : Call) : Type 0 where
  pub own : is_own_by uses j p c ≡ is_own_by uses k p c
  pub within : IsWithin uses j p c → IsWithin uses k p c
  pub low : are_low j.places ≡ true → are_low k.places ≡ true

abbrev pub UsesAlike : Type 0
UsesAlike = (uses : List ProcessUse) (k j : KernelState) (p : ℕ) (c : Call) → IsConsistent k → IsAlike k j → HaveUsesAlike uses k j p c
