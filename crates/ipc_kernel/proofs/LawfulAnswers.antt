-- What holds of every answer, whatever the kernel and the call.
use Rattle.std.proofs.Common.{◌≡◌, ℕ, ◌&&◌, ◌||◌, Bool, cond, not, nat_lt, nat_le, ◌==◌, List, [], ◌∷◌, length, Option, Some, None, Result, Ok, Err, IfOk, IsTrue, refl, sym, subst, length-set, position, rules}
use Rattle.ipc_names.specs.declared.errno.Errno.{Errno}
use Rattle.ipc_names.specs.declared.flags.Flags.{Flags}
use Rattle.ipc_names.specs.Flags.{flags_read, has_flag, o_creat, o_excl}
use Rattle.ipc_objects.specs.Limits.{mq_prio_max, sem_value_max}
use Rattle.ipc_objects.specs.declared.queue.Message.{Message}
use Rattle.ipc_objects.specs.Queue.{QueueState}
use Rattle.ipc_kernel.specs.declared.place.Place.{Place}
use Rattle.ipc_kernel.specs.declared.process.OpenTables.{OpenTables}
use Rattle.ipc_kernel.specs.declared.process.Descriptor.{Descriptor}
use Rattle.ipc_kernel.specs.declared.call.Call.{Call}
use Rattle.ipc_kernel.specs.declared.call.Call.TheVariants.{MqOpen, MqClose, MqUnlink, MqSend, MqReceive, MqGetattr, MqSetattr, SemOpen, SemClose, SemUnlink, SemWait, SemTrywait, SemPost, SemGetvalue, Exit}
use Rattle.ipc_kernel.specs.declared.call.Reply.{Reply}
use Rattle.ipc_kernel.specs.declared.call.Reply.TheVariants.{Plain}
use Rattle.ipc_kernel.specs.declared.call.Answer.{Answer}
use Rattle.ipc_kernel.specs.declared.call.Answer.TheVariants.{Done, Wait}
use Rattle.ipc_kernel.specs.Kernel.{KernelState, IsSettled}
use Rattle.ipc_kernel.specs.Processes.{descriptor_of, slot_of, slot_for, free_descriptor_of, free_slot_of}
use Rattle.ipc_kernel.specs.Places.{places_or_empty, is_empty, are_sizes, queue_named, semaphore_named}
use Rattle.ipc_kernel.specs.Private.Decisions.{outcome_of, decision_receives, decision_may_grow, decision_may_share, IsPossible, FitsBuffer, FitsLimit}
use Rattle.ipc_kernel.specs.declared.kernel.decision.Decision.{Decision}
use Rattle.ipc_kernel.specs.Outcomes.{Outcome, waiting, wait_or_again, open_queue, open_semaphore, unlink}
use Rattle.ipc_kernel.specs.Queues.{mq_send, take_first, mq_receive, mq_getattr, mq_setattr, mq_close, sizes_asked, new_descriptor, mq_create_at, mq_create, mq_look_up, mq_open}
use Rattle.ipc_kernel.specs.Semaphores.{sem_getvalue, sem_post, sem_wait, sem_trywait, sem_close, new_slot, one_more_open, sem_open_place, sem_create_at, sem_create, sem_look_up, sem_open}
use Rattle.ipc_kernel.specs.Replies.{IsReplyTo, IsAnswerTo}
use Rattle.ipc_kernel.specs.Answer.{answer, may_grow, may_wait, is_receive}
use Rattle.ipc_kernel.specs.Limits.{opens_max}
use Rattle.ipc_kernel.proofs.KernelLemmas.{emptied-emptied}

-- a message that a receive answers is no longer than what was asked for, and than a message can be
abbrev pub IsShort : Call → Answer → Type 0
IsShort call a = FitsBuffer call a × FitsLimit call a

-- the answer is one of the call, a wait is one of a call that can wait and changes nothing, the processes stay as many, and a settled
-- kernel is settled after it
record IsLawful (call : Call) (k : KernelState) (o : Outcome) : Type 0 where
  form : IsShort call o.0 → IsAnswerTo call o.0
  waits : o.0 ≡ Wait → IsTrue (may_wait call)
  unchanged : o.0 ≡ Wait → o.1 ≡ k
  count : length o.1.processes ≡ length k.processes
  settled : IsSettled k → IsSettled o.1

reply_is_no_wait : (r : Reply) → Done r ≡ Wait → ⊥
reply_is_no_wait r e = cc

lawful_refused : (c : Call) (k : KernelState) (w : ℕ) → IsLawful c k (Done (Plain w), k)
lawful_refused c k w = record { form = λ s. tt; waits = λ e. absurd (reply_is_no_wait (Plain w) e); unchanged = λ e. refl; count = refl; settled = λ s. s }

lawful_waits : (c : Call) (k : KernelState) → IsTrue (may_wait c) → IsLawful c k (waiting k)
lawful_waits c k can = record { form = λ s. tt; waits = λ e. can; unchanged = λ e. refl; count = refl; settled = λ s. s }

lawful_done : (c : Call) (k : KernelState) (r : Reply) (places : List Place) (processes : List OpenTables) → (IsShort c (Done r) → IsReplyTo c r) → length processes ≡ length k.processes
    → IsLawful c k (Done r, record { places = places_or_empty processes places; processes = processes })
lawful_done c k r places processes form count = search (rules, reply_is_no_wait, emptied-emptied)

lawful_if : (c : Call) (k : KernelState) (b : Bool) (x y : Outcome) → IsLawful c k x → IsLawful c k y → IsLawful c k (cond b x y)
lawful_if c k z x y h i = search rules

-- a call on what is found, or isn't
lawful_found : {A : Type 0} (c : Call) (k : KernelState) (call : Option A → Outcome) → IsLawful c k (call None) → ((x : A) → IsLawful c k (call (Some x))) → (o : Option A) → IsLawful c k (call o)
lawful_found c k call none some x = search rules

lawful_blocked : (c : Call) (k : KernelState) (d : Descriptor) → IsTrue (may_wait c) → IsLawful c k (wait_or_again k d)
lawful_blocked c k d can = lawful_if c k d.nonblock _ _ (lawful_refused c k _) (lawful_waits c k can)

lawful_sent : (c : Call) (k : KernelState) (priority : ℕ) (words : List ℕ) (o : Option (Descriptor × QueueState)) → IsTrue (may_wait c) → IsLawful c k (mq_send k priority words o)
lawful_sent c k priority words None can = lawful_refused c k _
lawful_sent c k priority words (Some held) can =
    lawful_if c k (held.0.access == 0) _ _ (lawful_refused c k _)
    (lawful_if c k (nat_le mq_prio_max priority) _ _ (lawful_refused c k _)
    (lawful_if c k (nat_lt held.1.message_size (length words)) _ _ (lawful_refused c k _)
    (lawful_if c k (nat_le held.1.max_messages (length held.1.messages)) _ _ (lawful_blocked c k held.0 can) (lawful_done c k _ _ _ (λ s. tt) refl))))

lawful_first : (m len : ℕ) (k : KernelState) (d : Descriptor) (q : QueueState) (ms : List Message) → IsLawful (MqReceive m len) k (take_first k d q ms)
lawful_first m len k d q [] = lawful_blocked (MqReceive m len) k d refl
lawful_first m len k d q (x ∷ rest) = lawful_done (MqReceive m len) k _ _ _ (λ s. (s.0 m len refl, s.1 m len refl)) refl

lawful_received : (m len : ℕ) (k : KernelState) (o : Option (Descriptor × QueueState)) → IsLawful (MqReceive m len) k (mq_receive k len o)
lawful_received m len k None = lawful_refused (MqReceive m len) k _
lawful_received m len k (Some held) = search (rules, lawful_if, lawful_refused, lawful_first)

lawful_queue_opened : (c : Call) (k : KernelState) (p : ℕ) (name : List ℕ) (sizes : ℕ × ℕ) (r : Result Flags Errno) → IsLawful c k (mq_open k p name sizes r)
lawful_queue_opened c k p name sizes (Err e) = lawful_refused c k _
lawful_queue_opened c k p name sizes (Ok flags) =
    lawful_if c k (flags.create && not (are_sizes sizes)) _ _ (lawful_refused c k _)
    (lawful_found c k (mq_look_up k p name sizes flags)
    (lawful_if c k flags.create _ _ (lawful_found c k (mq_create k p name sizes flags) (lawful_refused c k _) (λ d.
    lawful_found c k (mq_create_at k p d name sizes flags) (lawful_refused c k _) (λ place. lawful_done c k _ _ _ (λ s. tt) (length-set k.processes p _))
    (position is_empty k.places)) (free_descriptor_of k.processes p)) (lawful_refused c k _))
    (λ place. lawful_if c k (flags.create && flags.excl) _ _ (lawful_refused c k _)
    (lawful_found c k (new_descriptor k p place flags) (lawful_refused c k _) (λ d. lawful_done c k _ _ _ (λ s. tt) (length-set k.processes p _)) (free_descriptor_of k.processes p)))
    (queue_named k.places name))

lawful_unlinked : (c : Call) (k : KernelState) (o : Option ℕ) → IsLawful c k (unlink k o)
lawful_unlinked c k o = lawful_found c k (unlink k) (lawful_refused c k _) (λ place. lawful_done c k _ _ _ (λ s. tt) refl) o

lawful_opened_place : (c : Call) (k : KernelState) (p place : ℕ) (o : Option ℕ) → IsLawful c k (sem_open_place k p place o)
lawful_opened_place c k p place None =
    lawful_found c k (new_slot k p place) (lawful_refused c k _) (λ s. lawful_done c k _ _ _ (λ t. tt) (length-set k.processes p _)) (free_slot_of k.processes p)
lawful_opened_place c k p place (Some s) =
    lawful_found c k (one_more_open k p s) (lawful_refused c k _)
    (λ slot. lawful_if c k (slot.opens == opens_max) _ _ (lawful_refused c k _) (lawful_done c k _ _ _ (λ t. tt) (length-set k.processes p _))) (slot_of k.processes p s)

lawful_semaphore_opened : (c : Call) (k : KernelState) (p : ℕ) (name : List ℕ) (flags value : ℕ) → IsLawful c k (sem_open k p name flags value)
lawful_semaphore_opened c k p name flags value =
    lawful_if c k (has_flag o_creat flags && nat_lt sem_value_max value) _ _ (lawful_refused c k _)
    (lawful_found c k (sem_look_up k p name (has_flag o_creat flags) (has_flag o_excl flags) value)
    (lawful_if c k (has_flag o_creat flags) _ _ (lawful_found c k (sem_create k p name value) (lawful_refused c k _) (λ s.
    lawful_found c k (sem_create_at k p s name value) (lawful_refused c k _) (λ place. lawful_done c k _ _ _ (λ t. tt) (length-set k.processes p _))
    (position is_empty k.places)) (free_slot_of k.processes p)) (lawful_refused c k _))
    (λ place. lawful_if c k (has_flag o_creat flags && has_flag o_excl flags) _ _ (lawful_refused c k _) (lawful_opened_place c k p place (slot_for k.processes p place)))
    (semaphore_named k.places name))

lawful : (k : KernelState) (p : ℕ) (c : Call) → IsLawful c k (answer k p c)
unfolding answer
lawful k p (MqOpen name flags attr) = lawful_queue_opened (MqOpen name flags attr) k p name (sizes_asked attr) (flags_read flags)
lawful k p (MqClose d) =
    lawful_found (MqClose d) k (mq_close k p d) (lawful_refused (MqClose d) k _) (λ held. lawful_done (MqClose d) k _ _ _ (λ s. tt) (length-set k.processes p _)) (descriptor_of k.processes p d)
lawful k p (MqUnlink name) = lawful_unlinked (MqUnlink name) k (queue_named k.places name)
lawful k p (MqSend d words priority) = lawful_sent (MqSend d words priority) k priority words (open_queue k p d) refl
lawful k p (MqReceive d len) = lawful_received d len k (open_queue k p d)
lawful k p (MqGetattr d) =
    lawful_found (MqGetattr d) k (mq_getattr k) (lawful_refused (MqGetattr d) k _) (λ held. lawful_done (MqGetattr d) k _ _ _ (λ s. tt) refl) (open_queue k p d)
lawful k p (MqSetattr d flags) =
    lawful_found (MqSetattr d flags) k (mq_setattr k p d flags) (lawful_refused (MqSetattr d flags) k _) (λ held.
    lawful_if (MqSetattr d flags) k (has_flag 63487 flags) _ _ (lawful_refused (MqSetattr d flags) k _)
    (lawful_done (MqSetattr d flags) k _ _ _ (λ s. tt) (length-set k.processes p _))) (open_queue k p d)
lawful k p (SemOpen name flags value) = lawful_semaphore_opened (SemOpen name flags value) k p name flags value
lawful k p (SemClose s) =
    lawful_found (SemClose s) k (sem_close k p s) (lawful_refused (SemClose s) k _) (λ slot. lawful_done (SemClose s) k _ _ _ (λ t. tt) (length-set k.processes p _)) (slot_of k.processes p s)
lawful k p (SemUnlink name) = lawful_unlinked (SemUnlink name) k (semaphore_named k.places name)
lawful k p (SemWait s) =
    lawful_found (SemWait s) k (sem_wait k) (lawful_refused (SemWait s) k _)
    (λ held. lawful_if (SemWait s) k (held.1 == 0) _ _ (lawful_waits (SemWait s) k refl) (lawful_done (SemWait s) k _ _ _ (λ t. tt) refl)) (open_semaphore k p s)
lawful k p (SemTrywait s) =
    lawful_found (SemTrywait s) k (sem_trywait k) (lawful_refused (SemTrywait s) k _)
    (λ held. lawful_if (SemTrywait s) k (held.1 == 0) _ _ (lawful_refused (SemTrywait s) k _) (lawful_done (SemTrywait s) k _ _ _ (λ t. tt) refl)) (open_semaphore k p s)
lawful k p (SemPost s) =
    lawful_found (SemPost s) k (sem_post k) (lawful_refused (SemPost s) k _)
    (λ held. lawful_if (SemPost s) k (held.1 == sem_value_max) _ _ (lawful_refused (SemPost s) k _) (lawful_done (SemPost s) k _ _ _ (λ t. tt) refl)) (open_semaphore k p s)
lawful k p (SemGetvalue s) =
    lawful_found (SemGetvalue s) k (sem_getvalue k) (lawful_refused (SemGetvalue s) k _) (λ held. lawful_done (SemGetvalue s) k _ _ _ (λ t. tt) refl) (open_semaphore k p s)
lawful k p Exit = lawful_done Exit k _ _ _ (λ s. tt) (length-set k.processes p _)

-- the answer is one of the call, where a message is short
pub answer_form : (k : KernelState) (p : ℕ) (c : Call) → IsShort c (answer k p c).0 → IsAnswerTo c (answer k p c).0
answer_form k p c = (lawful k p c).form

-- a call that waits is one that can
pub answer_may_wait : (k : KernelState) (p : ℕ) (c : Call) → (answer k p c).0 ≡ Wait → IsTrue (may_wait c)
answer_may_wait k p c = (lawful k p c).waits

-- a call that waits changes nothing
pub answer_wait : (k : KernelState) (p : ℕ) (c : Call) → (answer k p c).0 ≡ Wait → (answer k p c).1 ≡ k
answer_wait k p c = (lawful k p c).unchanged

-- the number of processes stays
pub answer_count : (k : KernelState) (p : ℕ) (c : Call) → length (answer k p c).1.processes ≡ length k.processes
answer_count k p c = (lawful k p c).count

-- a settled kernel is settled after each call
pub answer_settled : (k : KernelState) (p : ℕ) (c : Call) → IsSettled k → IsSettled (answer k p c).1
answer_settled k p c = (lawful k p c).settled

-- what a decision gives is an answer of its call, where a message is short
pub decided_form : (k : KernelState) (p : ℕ) (c : Call) (d : Decision) → outcome_of k p d ≡ answer k p c
    → FitsBuffer c (answer k p c).0 → FitsLimit c (answer k p c).0 → IsAnswerTo c (outcome_of k p d).0
decided_form k p c d same size limit = subst (λ (o : Outcome). IsAnswerTo c o.0) (sym same) (answer_form k p c (size, limit))

-- the same of what a function gives with an answer in it, if it gives something
pub given_form : {X E : Type 0} (r : Result X E) (Q : X → Type 0) (in_it : X → Answer) (k : KernelState) (p : ℕ) (c : Call) (d : Decision) → outcome_of k p d ≡ answer k p c
    → FitsBuffer c (answer k p c).0 → FitsLimit c (answer k p c).0 → ((x : X) → Q x → in_it x ≡ (outcome_of k p d).0) → IfOk r Q → IfOk r (λ x. IsAnswerTo c (in_it x))
given_form x y in_it k p c d same size limit is given = search (rules, decided_form)

-- a decision to take a message is one of mq_receive alone
pub received_alone : (k : KernelState) (p : ℕ) (c : Call) (d : Decision) → IsPossible k d → IsAnswerTo c (outcome_of k p d).0 → IsTrue (decision_receives d) → IsTrue (is_receive c)
received_alone k p c x possible form is = search rules

-- beside what takes memory, words are shared for mq_receive alone
pub grown_or_received : (k : KernelState) (p : ℕ) (c : Call) (d : Decision) → IsPossible k d → IsAnswerTo c (outcome_of k p d).0
    → (IsTrue (decision_may_grow d) → IsTrue (may_grow c)) → IsTrue (decision_may_share d) → IsTrue (may_grow c || is_receive c)
grown_or_received k p c x possible form grows is = search rules
