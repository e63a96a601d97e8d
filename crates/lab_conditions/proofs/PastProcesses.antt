-- Calls of processes that a kernel doesn't know.
use Rattle.std.proofs.Common.{ℕ, ◌≡◌, ◌≤◌, true, false, not, List, [], length, Option, None, IsTrue, refl, ap, slice_get, rules}
use Rattle.std.specs.Option.{option_map, option_and_then}
use Rattle.std.proofs.lemmas.Option.{slice_get_past}
use Rattle.ipc_kernel.specs.declared.process.Slot.{Slot}
use Rattle.ipc_kernel.specs.declared.process.Descriptor.{Descriptor}
use Rattle.ipc_kernel.specs.declared.process.OpenTables.{OpenTables}
use Rattle.ipc_kernel.specs.declared.call.Call.{Call}
use Rattle.ipc_kernel.specs.declared.call.Call.TheVariants.{MqSend, MqReceive, SemWait}
use Rattle.ipc_kernel.specs.declared.call.Answer.{Answer}
use Rattle.ipc_kernel.specs.declared.call.Answer.TheVariants.{Wait}
use Rattle.ipc_objects.specs.Queue.{QueueState}
use Rattle.ipc_kernel.specs.Places.{place_at, queue_in, semaphore_value}
use Rattle.ipc_kernel.specs.Kernel.{KernelState}
use Rattle.ipc_kernel.specs.Processes.{process_at}
use Rattle.ipc_kernel.specs.Outcomes.{open_queue, open_semaphore}
use Rattle.ipc_kernel.specs.Queues.{mq_send, mq_receive}
use Rattle.ipc_kernel.specs.Semaphores.{sem_wait}
use Rattle.ipc_kernel.specs.Answer.{answer, is_done, may_wait}
use Rattle.ipc_kernel.proofs.LawfulAnswers.{answer_may_wait}
use Rattle.lab_conditions.specs.Conditions.{must_wait}

-- such a process has nothing open
closed : (ps : List OpenTables) (p : ℕ) → length ps ≤ p → process_at ps p ≡ record { descriptors = []; slots = [] }
closed ps p past = let none : slice_get ps p ≡ None = slice_get_past ps p past in rw none refl

abbrev queue_from : KernelState → Option Descriptor → Option (Descriptor × QueueState)
queue_from k o = option_and_then (λ held. option_map (λ q. (held, q)) (queue_in (place_at k.places held.place))) o

no_queue : (k : KernelState) (p d : ℕ) → length k.processes ≤ p → open_queue k p d ≡ None
no_queue k p d past = search (rules, closed, slice_get_past)

abbrev semaphore_from : KernelState → Option Slot → Option (Slot × ℕ)
semaphore_from k o = option_and_then (λ slot. option_map (λ v. (slot, v)) (semaphore_value (place_at k.places slot.place))) o

no_semaphore : (k : KernelState) (p s : ℕ) → length k.processes ≤ p → open_semaphore k p s ≡ None
no_semaphore k p s past = search (rules, closed, slice_get_past)

can_not : (c : Call) (a : Answer) → (a ≡ Wait → IsTrue (may_wait c)) → may_wait c ≡ false → is_done a ≡ true
can_not c x may never = search rules

done : (k : KernelState) (p : ℕ) (c : Call) → length k.processes ≤ p → is_done (answer k p c).0 ≡ true
unfolding answer
done k p (MqSend d words prio) past = ap (λ o. is_done (mq_send k prio words o).0) (no_queue k p d past)
done k p (MqReceive d len) past = ap (λ o. is_done (mq_receive k len o).0) (no_queue k p d past)
done k p (SemWait s) past = ap (λ o. is_done (sem_wait k o).0) (no_semaphore k p s past)
done k p c past = can_not c _ (answer_may_wait k p c) refl

-- a call of such a process doesn't wait
pub none_waits : (k : KernelState) (p : ℕ) (c : Call) → length k.processes ≤ p → must_wait k p c ≡ false
none_waits k p c past = ap not (done k p c past)
