-- What each call answers, and the kernel after it.
use Rattle.std.specs.Prelude.{ℕ, Bool, true, false, slice_set}
use Rattle.ipc_names.specs.Flags.{flags_read}
use Rattle.ipc_kernel.specs.declared.call.Call.{Call}
use Rattle.ipc_kernel.specs.declared.call.Call.TheVariants.{MqOpen, MqClose, MqUnlink, MqSend, MqReceive, MqGetattr, MqSetattr, SemOpen, SemClose, SemUnlink, SemWait, SemTrywait, SemPost, SemGetvalue, Exit}
use Rattle.ipc_kernel.specs.declared.call.Reply.TheVariants.{Plain}
use Rattle.ipc_kernel.specs.declared.call.Answer.{Answer}
use Rattle.ipc_kernel.specs.declared.call.Answer.TheVariants.{Done, Wait}
use Rattle.ipc_kernel.specs.Processes.{descriptor_of, slot_of, closed_process}
use Rattle.ipc_kernel.specs.Places.{queue_named, semaphore_named}
use Rattle.ipc_kernel.specs.Kernel.{KernelState}
use Rattle.ipc_kernel.specs.Outcomes.{Outcome, completion, unlink, open_queue, open_semaphore}
use Rattle.ipc_kernel.specs.Queues.{sizes_asked, mq_open, mq_close, mq_send, mq_receive, mq_getattr, mq_setattr}
use Rattle.ipc_kernel.specs.Semaphores.{sem_open, sem_close, sem_wait, sem_trywait, sem_post, sem_getvalue}

-- the end of a process closes all its descriptors and slots, and gives no semaphore's value back (page _Exit of POSIX.1-2017)
abbrev pub exit : KernelState → ℕ → Outcome
exit k p = completion (record k { processes = slice_set k.processes p closed_process }) (Plain 0)

-- what a call of process p answers, and the kernel after it
unfoldable pub answer : KernelState → ℕ → Call → Outcome
answer k p (MqOpen name flags attr) = mq_open k p name (sizes_asked attr) (flags_read flags)
answer k p (MqClose d) = mq_close k p d (descriptor_of k.processes p d)
answer k p (MqUnlink name) = unlink k (queue_named k.places name)
answer k p (MqSend d words prio) = mq_send k prio words (open_queue k p d)
answer k p (MqReceive d len) = mq_receive k len (open_queue k p d)
answer k p (MqGetattr d) = mq_getattr k (open_queue k p d)
answer k p (MqSetattr d flags) = mq_setattr k p d flags (open_queue k p d)
answer k p (SemOpen name flags value) = sem_open k p name flags value
answer k p (SemClose s) = sem_close k p s (slot_of k.processes p s)
answer k p (SemUnlink name) = unlink k (semaphore_named k.places name)
answer k p (SemWait s) = sem_wait k (open_semaphore k p s)
answer k p (SemTrywait s) = sem_trywait k (open_semaphore k p s)
answer k p (SemPost s) = sem_post k (open_semaphore k p s)
answer k p (SemGetvalue s) = sem_getvalue k (open_semaphore k p s)
answer k p Exit = exit k p

-- whether an answer is a reply
abbrev pub is_done : Answer → Bool
is_done (Done _) = true
is_done Wait = false

-- whether a call can take memory: what it makes, or the message that it sends
abbrev pub may_grow : Call → Bool
may_grow (MqOpen name flags attr) = true
may_grow (MqSend d words prio) = true
may_grow (SemOpen name flags value) = true
may_grow other = false

-- whether a call can wait
abbrev pub may_wait : Call → Bool
may_wait (MqSend d words prio) = true
may_wait (MqReceive d len) = true
may_wait (SemWait s) = true
may_wait other = false

-- whether a call receives a message
abbrev pub is_receive : Call → Bool
is_receive (MqReceive d len) = true
is_receive other = false
