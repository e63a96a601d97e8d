-- Calls that change the tables of their process alone: where each object has a name, they commute with the calls of other
-- processes that take no name away.
use Rattle.std.specs.Prelude.{ℕ, ◌≡◌, Bool, true, false, List, is_some}
use Rattle.ipc_kernel.specs.declared.call.Call.{Call}
use Rattle.ipc_kernel.specs.declared.call.Call.TheVariants.{MqOpen, MqClose, MqUnlink, SemOpen, SemClose, SemUnlink, Exit}
use Rattle.ipc_kernel.specs.declared.place.Place.{Place}
use Rattle.ipc_kernel.specs.Places.{queue_named, semaphore_named}
use Rattle.ipc_kernel.specs.Kernel.{KernelState, empty_kernel}
use Rattle.ipc_kernel.specs.Answer.{answer}
use Rattle.ipc_kernel.specs.Alike.{IsAlike, IsConsistent}
use Rattle.ipc_kernel.specs.Operands.{are_named}

-- whether a call takes a name away
abbrev pub is_unlink : Call → Bool
is_unlink (MqUnlink name) = true
is_unlink (SemUnlink name) = true
is_unlink other = false

-- whether a call, over places where each object has a name, is one that changes the tables of its process alone: the end of a
-- process, a close, or an open of a name that an object has
abbrev pub is_own : List Place → Call → Bool
is_own ps Exit = true
is_own ps (MqClose d) = true
is_own ps (SemClose s) = true
is_own ps (MqOpen name flags attr) = is_some (queue_named ps name)
is_own ps (SemOpen name flags value) = is_some (semaphore_named ps name)
is_own ps other = false

-- a call c of process p, its own, and a call d of process q: each has the answer that it has without the other before it, both
-- orders leave the same kernel, and after d the call c is p's own still
pub record Commute (k : KernelState) (p q : ℕ) (c d : Call) : Type 0 where
  pub second : (answer (answer k p c).1 q d).0 ≡ (answer k q d).0
  pub first : (answer (answer k q d).1 p c).0 ≡ (answer k p c).0
  pub kernel : (answer (answer k p c).1 q d).1 ≡ (answer (answer k q d).1 p c).1
  pub own : is_own (answer k q d).1.places c ≡ true

-- where each object has a name, a process's own call commutes with each call of another process that takes no name away
abbrev pub OwnCallsCommute : Type 0
OwnCallsCommute = (k : KernelState) (p q : ℕ) (c d : Call) → (p ≡ q → ⊥) → are_named k.places ≡ true → is_own k.places c ≡ true
    → is_unlink d ≡ false → Commute k p q c d

-- before the first call each object has a name, since there is none
abbrev pub StartNamed : Type 0
StartNamed = (n : ℕ) → are_named (empty_kernel n).places ≡ true

-- a call that takes no name away leaves each object with a name
abbrev pub StayNamed : Type 0
StayNamed = (k : KernelState) (p : ℕ) (c : Call) → are_named k.places ≡ true → is_unlink c ≡ false
    → are_named (answer k p c).1.places ≡ true

-- kernels that are alike have the same own calls, and each object has a name in both or in neither
abbrev pub OwnAlike : Type 0
OwnAlike = (k j : KernelState) (c : Call) → IsConsistent k → IsAlike k j
    → (is_own j.places c ≡ is_own k.places c) × (are_named j.places ≡ are_named k.places)
