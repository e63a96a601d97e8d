-- What each call makes of the tables of its process and of the object that it works on: the same in each kernel that has them, and
-- in each with its places renamed.
use Rattle.std.proofs.Common.{◌≡◌, ℕ, ◌-◌, ◌+◌, ◌==◌, Bool, true, false, cond, ◌||◌, ◌&&◌, not, nat_lt, nat_le, List, [], ◌∷◌, length, set, Option, Some, None, Result, Ok, Err, is_none, position, unwrap_or, slice_get, option_and_then, refl, sym, ap, ◌∙◌, inl, inr, rules}
use Rattle.std.specs.Option.{option_map}
use Rattle.std.specs.List.{list_any}
use Rattle.std.proofs.lemmas.Bool.{false≢true, or_parts}
use Rattle.std.proofs.lemmas.Bool.Decides.{eqb_tells}
use Rattle.std.proofs.lemmas.Iterator.Adapters.{option_map_id}
use Rattle.std.proofs.lemmas.List.{set-get_or}
use Rattle.std.proofs.lemmas.List.Quantifiers.{position-Some}
use Rattle.std.proofs.lemmas.Option.{unwrap_or-slice_get}
use Rattle.ipc_names.specs.declared.errno.Errno.{Errno}
use Rattle.ipc_names.specs.declared.errno.Errno.TheVariants.{Again, BadDescriptor, Exists, Invalid, MessageSize, NoEntry, NoSpace, Overflow, TooManyOpen}
use Rattle.ipc_names.specs.declared.flags.Flags.{Flags}
use Rattle.ipc_names.specs.Errno.{number_of}
use Rattle.ipc_names.specs.Flags.{flags_read, has_flag, o_creat, o_excl, o_nonblock}
use Rattle.ipc_objects.specs.declared.queue.Message.{Message}
use Rattle.ipc_objects.specs.Limits.{mq_prio_max, sem_value_max}
use Rattle.ipc_objects.specs.Queue.{QueueState, empty_queue, with_message}
use Rattle.ipc_kernel.specs.Limits.{opens_max}
use Rattle.ipc_kernel.specs.declared.place.Place.{Place}
use Rattle.ipc_kernel.specs.declared.place.Place.TheVariants.{Empty, Mq, Sem as SemPlace}
use Rattle.ipc_kernel.specs.declared.process.OpenTables.{OpenTables}
use Rattle.ipc_kernel.specs.declared.process.Slot.{Slot}
use Rattle.ipc_kernel.specs.declared.process.Descriptor.{Descriptor}
use Rattle.ipc_kernel.specs.declared.call.Call.{Call}
use Rattle.ipc_kernel.specs.declared.call.Call.TheVariants.{MqOpen, MqClose, MqSend, MqReceive, MqGetattr, MqSetattr, SemOpen, SemClose, SemWait, SemTrywait, SemPost, SemGetvalue}
use Rattle.ipc_kernel.specs.declared.call.Handle.TheVariants.{Mqd, Slot as Sem}
use Rattle.ipc_kernel.specs.declared.call.Reply.{Reply}
use Rattle.ipc_kernel.specs.declared.call.Reply.TheVariants.{Plain, Message as received, Attr, Value}
use Rattle.ipc_kernel.specs.declared.call.Answer.{Answer}
use Rattle.ipc_kernel.specs.declared.call.Answer.TheVariants.{Done, Wait}
use Rattle.ipc_kernel.specs.Processes.{process_at, closed_process, descriptor_of, slot_of, free_descriptor_of, free_slot_of, descriptor_refers, slot_refers, process_refers}
use Rattle.ipc_kernel.specs.Places.{place_at, is_empty, queue_name, semaphore_name, place_named, queue_in, semaphore_value, with_queue, with_value, are_sizes}
use Rattle.ipc_kernel.specs.Kernel.{KernelState, IsSettled}
use Rattle.ipc_kernel.specs.Outcomes.{Outcome, refusal, completion, wait_or_again, open_queue, open_semaphore, with_queue_at, with_value_at}
use Rattle.ipc_kernel.specs.Queues.{sizes_asked, descriptor_for, new_descriptor, mq_create_at, mq_create, mq_look_up, mq_open, mq_close, mq_send, mq_receive, take_first, attributes, mq_getattr, mq_setattr}
use Rattle.ipc_kernel.specs.Semaphores.{new_slot, one_more_open, sem_open_place, sem_create_at, sem_create, sem_look_up, sem_open, sem_close, sem_wait, sem_trywait, sem_post, sem_getvalue}
use Rattle.ipc_kernel.specs.Answer.{answer, exit}
use Rattle.ipc_kernel.specs.Alike.{renamed_descriptor, renamed_slot, renamed_process, IsPermutation}
use Rattle.ipc_kernel.specs.Operands.{are_named, handle_of, place_of, with_operand, HasOperand}
use Rattle.ipc_kernel.proofs.KernelLemmas.{done_settled}
use Rattle.ipc_store.proofs.Renamings.{nobody, held_by, slot_by, with_held, with_slot_held, held-renamed, slot_held-renamed, with_held-renamed, with_slot_held-renamed, free-renamed, slot_for-renamed, process_id}
use Rattle.ipc_store.proofs.SettledTables.{any_set, none_at, settled_named}
use Rattle.ipc_store.proofs.Alikes.{done, permutation_itself}
use Rattle.ipc_store.proofs.WorkPlaces.{Lookup, Named, New, Nowhere, IsFound, Finds, is_open, new_object, is_local, RefersTo, OpensNone, Keeps, IsKind, kind_queue, kind_value, MayLeave, stays, found}

-- an element that is written back changes nothing
pub back : {A : Type 0} (xs : List A) (i : ℕ) (d x : A) → unwrap_or (slice_get xs i) d ≡ x → set xs i x ≡ xs
back xs i d x e = ap (set xs i) (sym e ∙ unwrap_or-slice_get xs i d) ∙ set-get_or xs i d

-- the kernel as it was
pub kept : (k : KernelState) (p i : ℕ) (t : OpenTables) (o : Place) → HasOperand k p i t o → with_operand k p i o t ≡ k
kept k p i t o has = simp (back k.places i o o (ap (λ x. unwrap_or x o) has.object), back k.processes p t t (ap (λ x. unwrap_or x t) has.tables))

-- the end of a process, where each object has a name
pub ended : (k : KernelState) (p : ℕ) → are_named k.places ≡ true → exit k p ≡ (Done (Plain 0), record { places = k.places; processes = set k.processes p closed_process })
ended k p named = done_settled (record { places = k.places; processes = set k.processes p closed_process }) (Plain 0) (settled_named (set k.processes p closed_process) k.places named)

-- the kernel whose places without a name and a reference are emptied, if a call is completed
abbrev pub after : Bool → KernelState → KernelState
after b k = cond b (done k) k

pub after_settled : (b : Bool) (k : KernelState) → IsSettled k → after b k ≡ k
after_settled x k s = search rules

-- through renaming f, process p has tables t, what place i holds fits, and an open finds this there
pub record Shows (c : Call) (f g : ℕ → ℕ) (k : KernelState) (p i : ℕ) (t : OpenTables) (Fits : Place → Type 0) (l : Lookup) : Type 0 where
  pub permutation : IsPermutation f g
  pub tables : process_at k.processes p ≡ renamed_process f t
  pub object : Fits (place_at k.places (f i))
  pub finds : Finds c k.places (f i) l

-- a call of a process over a kernel, by where a renaming takes places
abbrev pub RenamedCall : Type 0
RenamedCall = (ℕ → ℕ) → KernelState → ℕ → Outcome

-- what a call makes of place i and of tables t is the same in each kernel that shows them
pub record IsLocal (c : Call) (i : ℕ) (t : OpenTables) (Fits : Place → Type 0) (l : Lookup) (call : RenamedCall) : Type 0 where
  pub reply : Answer
  pub completes : Bool
  pub object : Place → Place
  pub tables : OpenTables
  pub same : (f g : ℕ → ℕ) (k : KernelState) (p : ℕ) → Shows c f g k p i t Fits l
      → call f k p ≡ (reply, after completes (with_operand k p (f i) (object (place_at k.places (f i))) (renamed_process f tables)))
  pub refers : (n : ℕ) (x : Place) → Keeps c l i t n (object x) → process_refers n tables ≡ process_refers n t
  pub leaves : (x : Place) → MayLeave c l x (object x)

-- tables refer to a place as before, where what is written does
held_refers : (t : OpenTables) (d n : ℕ) (y : Option Descriptor) → descriptor_refers n y ≡ descriptor_refers n (held_by d t) → process_refers n (with_held t d y) ≡ process_refers n t
held_refers t d n y same = ap (λ b. b || list_any (slot_refers n) t.slots) (any_set (descriptor_refers n) t.descriptors d y None same)

slot_held_refers : (t : OpenTables) (s n : ℕ) (y : Option Slot) → slot_refers n y ≡ slot_refers n (slot_by s t) → process_refers n (with_slot_held t s y) ≡ process_refers n t
slot_held_refers t s n y same = ap (λ b. list_any (descriptor_refers n) t.descriptors || b) (any_set (slot_refers n) t.slots s y None same)

none_of : {A : Type 0} (o : Option A) → is_none o ≡ true → o ≡ None
none_of x e = search rules

-- the first that is free
free_there : {A : Type 0} (xs : List (Option A)) (i : ℕ) → position is_none xs ≡ Some i → unwrap_or (slice_get xs i) None ≡ None
free_there xs i e = unwrap_or-slice_get xs i None ∙ none_of _ (position-Some is_none xs i None e).1

module _ (c : Call) (i : ℕ) (t : OpenTables) (Fits : Place → Type 0) (l : Lookup) where
  abbrev Step : RenamedCall → Type 0
  Step call = IsLocal c i t Fits l call

  abbrev Shown : (ℕ → ℕ) → (ℕ → ℕ) → KernelState → ℕ → Type 0
  Shown f g k p = Shows c f g k p i t Fits l

  -- a call that is another one wherever a kernel shows that
  same_as : (x y : RenamedCall) → ((f g : ℕ → ℕ) (k : KernelState) (p : ℕ) → Shown f g k p → x f k p ≡ y f k p) → Step y → Step x
  same_as x y e h = record {
    reply = h.reply;
    completes = h.completes;
    object = h.object;
    tables = h.tables;
    same = λ f g k p s. e f g k p s ∙ h.same f g k p s;
    refers = h.refers;
    leaves = h.leaves;
  }

  back_in : (f g : ℕ → ℕ) (k : KernelState) (p : ℕ) → Shown f g k p → with_operand k p (f i) (place_at k.places (f i)) (renamed_process f t) ≡ k
  back_in f g k p s = simp (back k.places (f i) Empty (place_at k.places (f i)) refl, back k.processes p nobody (renamed_process f t) s.tables)

  -- a call that changes nothing
  unchanged : (a : Answer) → Step (λ f k p. (a, k))
  unchanged a = record {
    reply = a;
    completes = false;
    object = λ x. x;
    tables = t;
    same = λ f g k p s. ap (λ x. (a, x)) (sym (back_in f g k p s));
    refers = λ n x keeps. refl;
    leaves = stays c l;
  }

  refused : (e : Errno) → Step (λ f k p. refusal k e)
  refused e = unchanged (Done (Plain (65536 - number_of e)))

  choice : (b : Bool) (x y : RenamedCall) → Step x → Step y → Step (λ f k p. cond b (x f k p) (y f k p))
  choice true x y h j = h
  choice false x y h j = j

  -- a call that is completed, with another object and other tables
  finished : (h : Place → Place) (u : OpenTables) (r : Reply) → ((n : ℕ) (x : Place) → Keeps c l i t n (h x) → process_refers n u ≡ process_refers n t) → ((x : Place) → MayLeave c l x (h x))
      → Step (λ f k p. completion (with_operand k p (f i) (h (place_at k.places (f i))) (renamed_process f u)) r)
  finished h u r refers leaves = record { reply = Done r; completes = true; object = h; tables = u; same = λ f g k p s. refl; refers = refers; leaves = leaves }

  told : (r : Reply) → Step (λ f k p. completion k r)
  told r = same_as _ _ (λ f g k p s. ap (λ x. completion x r) (sym (back_in f g k p s))) (finished (λ x. x) t r (λ n x keeps. refl) (stays c l))

  -- another state of an open object
  changed : (h : Place → Place) (a : ℕ) (r : Reply) → a ≡ i → ((x : Place) → IsKind x (h x)) → (handle_of c ≡ None → ⊥)
      → Step (λ f k p. completion (record k { places = set k.places (f a) (h (place_at k.places (f a))) }) r)
  changed h a r same kind handled =
      same_as _ _ (λ f g k p s. simp (same, back k.processes p nobody (renamed_process f t) s.tables)) (finished h t r (λ n x keeps. refl) (λ x. inl (kind x, λ e. absurd (handled e))))

  -- other tables, which w writes, and another object
  put : (h : Place → Place) (w : (ℕ → ℕ) → OpenTables → OpenTables) (u : OpenTables) (r : Reply) → ((f : ℕ → ℕ) → w f (renamed_process f t) ≡ renamed_process f u)
      → ((n : ℕ) (x : Place) → Keeps c l i t n (h x) → process_refers n u ≡ process_refers n t) → ((x : Place) → MayLeave c l x (h x))
      → Step (λ f k p. completion (with_operand k p (f i) (h (place_at k.places (f i))) (w f (process_at k.processes p))) r)
  put h w u r writes refers leaves = same_as _ _ (λ f g k p s. simp (s.tables, writes f)) (finished h u r refers leaves)

  -- other tables alone
  alone : (w : (ℕ → ℕ) → OpenTables → OpenTables) (u : OpenTables) (r : Reply) → ((f : ℕ → ℕ) → w f (renamed_process f t) ≡ renamed_process f u)
      → ((n : ℕ) (x : Place) → Keeps c l i t n x → process_refers n u ≡ process_refers n t)
      → Step (λ f k p. completion (record k { processes = set k.processes p (w f (process_at k.processes p)) }) r)
  alone w u r writes refers = same_as _ _ (λ f g k p s. simp (back k.places (f i) Empty (place_at k.places (f i)) refl)) (put (λ x. x) w u r writes refers (stays c l))

  held : (d : ℕ) (y : Option Descriptor) (r : Reply) → ((n : ℕ) (x : Place) → Keeps c l i t n x → descriptor_refers n y ≡ descriptor_refers n (held_by d t))
      → Step (λ f k p. completion (record k { processes = set k.processes p (with_held (process_at k.processes p) d (option_map (renamed_descriptor f) y)) }) r)
  held d y r refers = alone (λ f x. with_held x d (option_map (renamed_descriptor f) y)) (with_held t d y) r (λ f. with_held-renamed f t d y) (λ n x keeps. held_refers t d n y (refers n x keeps))

  slot_held : (s : ℕ) (y : Option Slot) (r : Reply) → ((n : ℕ) (x : Place) → Keeps c l i t n x → slot_refers n y ≡ slot_refers n (slot_by s t))
      → Step (λ f k p. completion (record k { processes = set k.processes p (with_slot_held (process_at k.processes p) s (option_map (renamed_slot f) y)) }) r)
  slot_held s y r refers =
      alone (λ f x. with_slot_held x s (option_map (renamed_slot f) y)) (with_slot_held t s y) r (λ f. with_slot_held-renamed f t s y) (λ n x keeps. slot_held_refers t s n y (refers n x keeps))

  -- a call by what the tables of its process have
  read : {A : Type 0} (x : Option A) (look : (ℕ → ℕ) → OpenTables → Option A) (shown : (ℕ → ℕ) → A → A) (call : (ℕ → ℕ) → KernelState → ℕ → Option A → Outcome)
      → ((f g : ℕ → ℕ) → IsPermutation f g → look f (renamed_process f t) ≡ option_map (shown f) x) → Step (λ f k p. call f k p None)
      → ((y : A) → x ≡ Some y → Step (λ f k p. call f k p (Some (shown f y)))) → Step (λ f k p. call f k p (look f (process_at k.processes p)))
  read {A} x look shown call law none some =
      same_as _ (λ f k p. call f k p (option_map (shown f) x)) (λ f g k p s. ap (call f k p) (ap (look f) s.tables ∙ law f g s.permutation)) (by x refl)
    where
      by : (y : Option A) → x ≡ y → Step (λ f k p. call f k p (option_map (shown f) y))
      by None e = none
      by (Some y) e = some y e

  -- the place of a descriptor or slot that is closed isn't one that keeps its references
  gone : (a n : ℕ) (x : Place) → a ≡ i → handle_of c ≡ None → Keeps c l i t n x → (process_refers n t ≡ false → (a == n) ≡ false) → (a == n) ≡ false
  gone a n x at closes keeps none = elim (eqb_tells a n) [ inl same ↦ none (keeps (sym same.1 ∙ at) closes).1 | inr apart ↦ apart.0 ]

  pub mq_closed : (d : ℕ) → handle_of c ≡ None → ((h : Descriptor) → held_by d t ≡ Some h → h.place ≡ i) → Step (λ f k p. mq_close k p d (descriptor_of k.processes p d))
  mq_closed d closes at = read (held_by d t) (λ f. held_by d) renamed_descriptor (λ f k p x. mq_close k p d x) (λ f g h. held-renamed f t d) (refused BadDescriptor) (λ h e.
      held d None (Plain 0) (λ n x keeps. sym (ap (descriptor_refers n) e ∙ gone h.place n x (at h e) closes keeps
      (λ none. sym (ap (descriptor_refers n) e) ∙ none_at (descriptor_refers n) None refl t.descriptors d (or_parts _ _ none).0))))

  pub sem_closed : (s : ℕ) → handle_of c ≡ None → ((h : Slot) → slot_by s t ≡ Some h → h.place ≡ i) → Step (λ f k p. sem_close k p s (slot_of k.processes p s))
  sem_closed s closes at = read (slot_by s t) (λ f. slot_by s) renamed_slot (λ f k p x. sem_close k p s x) (λ f g h. slot_held-renamed f t s) (refused Invalid) (λ h e. by h e (nat_lt 1 h.opens))
    where
      by : (h : Slot) → slot_by s t ≡ Some h → (b : Bool) → Step (λ f k p.
          completion (record k { processes = set k.processes p (with_slot_held (process_at k.processes p) s (cond b (Some (record (renamed_slot f h) { opens = h.opens - 1 })) None)) }) (Plain 0))
      by h e true = slot_held s (Some (record h { opens = h.opens - 1 })) (Plain 0) (λ n x keeps. sym (ap (slot_refers n) e))
      by h e false = slot_held s None (Plain 0) (λ n x keeps. sym (ap (slot_refers n) e ∙ gone h.place n x (at h e) closes keeps
          (λ none. sym (ap (slot_refers n) e) ∙ none_at (slot_refers n) None refl t.slots s (or_parts _ _ none).1)))

  module _ (closes : handle_of c ≡ None) (opens : is_open c ≡ true) where
    -- what an open opens is place i
    opened_there : (n : ℕ) (y : Place) → (OpensNone l y → ⊥) → Keeps c l i t n y → (i == n) ≡ false
    opened_there n y one keeps = elim (eqb_tells i n) [ inl same ↦ absurd (one ((keeps (sym same.1) closes).0 opens)) | inr apart ↦ apart.0 ]

    new_held : (d : ℕ) (flags : Flags) → position is_none t.descriptors ≡ Some d → (n : ℕ) (y : Place) → (OpensNone l y → ⊥) → Keeps c l i t n y
        → descriptor_refers n (Some (descriptor_for i flags)) ≡ descriptor_refers n (held_by d t)
    new_held d flags e n y one keeps = opened_there n y one keeps ∙ sym (ap (descriptor_refers n) (free_there t.descriptors d e))

    new_slot_held : (s : ℕ) → position is_none t.slots ≡ Some s → (n : ℕ) (y : Place) → (OpensNone l y → ⊥) → Keeps c l i t n y → (i == n) ≡ slot_refers n (slot_by s t)
    new_slot_held s e n y one keeps = opened_there n y one keeps ∙ sym (ap (slot_refers n) (free_there t.slots s e))

    by_free_descriptor : (call : (ℕ → ℕ) → KernelState → ℕ → Option ℕ → Outcome) → Step (λ f k p. call f k p None)
        → ((d : ℕ) → position is_none t.descriptors ≡ Some d → Step (λ f k p. call f k p (Some d))) → Step (λ f k p. call f k p (free_descriptor_of k.processes p))
    by_free_descriptor call none some = read (position is_none t.descriptors) (λ f u. position is_none u.descriptors) (λ f d. d) call
        (λ f g h. free-renamed (renamed_descriptor f) t.descriptors ∙ sym (option_map_id (position is_none t.descriptors))) none some

    by_free_slot : (call : (ℕ → ℕ) → KernelState → ℕ → Option ℕ → Outcome) → Step (λ f k p. call f k p None)
        → ((s : ℕ) → position is_none t.slots ≡ Some s → Step (λ f k p. call f k p (Some s))) → Step (λ f k p. call f k p (free_slot_of k.processes p))
    by_free_slot call none some = read (position is_none t.slots) (λ f u. position is_none u.slots) (λ f s. s) call
        (λ f g h. free-renamed (renamed_slot f) t.slots ∙ sym (option_map_id (position is_none t.slots))) none some

    -- what an open finds by its name
    looked : (name_of : Place → Option (List ℕ)) (name : List ℕ) (call : KernelState → ℕ → Option ℕ → Outcome) → ((ps : List Place) (a : ℕ) → Finds c ps a l → IsFound name_of name ps a l)
        → (l ≡ Named → Step (λ f k p. call k p (Some (f i))))
        → (((make : KernelState → ℕ → Option ℕ → Outcome) → Step (λ f k p. make k p None) → (l ≡ New → Step (λ f k p. make k p (Some (f i)))) → Step (λ f k p. make k p (position is_empty k.places)))
        → Step (λ f k p. call k p None))
        → Step (λ f k p. call k p (place_named name_of k.places name))
    looked name_of name call found named absent = by l refl found
      where
        by : (m : Lookup) → l ≡ m → ((ps : List Place) (a : ℕ) → Finds c ps a l → IsFound name_of name ps a m) → Step (λ f k p. call k p (place_named name_of k.places name))
        by Named e is = same_as _ (λ f k p. call k p (Some (f i))) (λ f g k p s. ap (call k p) (is k.places (f i) s.finds)) (named e)
        by New e is = same_as _ (λ f k p. call k p None) (λ f g k p s. ap (call k p) (is k.places (f i) s.finds).0)
            (absent (λ make none some. same_as _ (λ f k p. make k p (Some (f i))) (λ f g k p s. ap (make k p) (is k.places (f i) s.finds).1) (some e)))
        by Nowhere e is = same_as _ (λ f k p. call k p None) (λ f g k p s. ap (call k p) (is k.places (f i) s.finds).0)
            (absent (λ make none some. same_as _ (λ f k p. make k p None) (λ f g k p s. ap (make k p) (is k.places (f i) s.finds).1) none))

    pub mq_opened : (name : List ℕ) (sizes : ℕ × ℕ) → ((ps : List Place) (a : ℕ) → Finds c ps a l → IsFound queue_name name ps a l) → new_object c ≡ Mq (Some name) (empty_queue sizes)
        → (r : Result Flags Errno) → Step (λ f k p. mq_open k p name sizes r)
    mq_opened name sizes found new (Err e) = refused e
    mq_opened name sizes found new (Ok flags) = choice (flags.create && not (are_sizes sizes)) _ _ (refused Invalid) (looked queue_name name (λ k p x. mq_look_up k p name sizes flags x) found
        (λ is. choice (flags.create && flags.excl) _ _ (refused Exists) (by_free_descriptor (λ f k p x. new_descriptor k p (f i) flags x) (refused TooManyOpen)
        (λ d e. held d (Some (descriptor_for i flags)) (Plain d) (λ n y. new_held d flags e n y (λ none. none.0 is)))))
        (λ at. choice flags.create _ _ (by_free_descriptor (λ f k p x. mq_create k p name sizes flags x) (refused TooManyOpen) (λ d e. at (λ k p x. mq_create_at k p d name sizes flags x) (refused NoSpace) (λ is.
        put (λ x. Mq (Some name) (empty_queue sizes)) (λ f x. with_held x d (Some (descriptor_for (f i) flags))) (with_held t d (Some (descriptor_for i flags))) (Plain d)
        (λ f. with_held-renamed f t d (Some (descriptor_for i flags))) (λ n x keeps. held_refers t d n (Some (descriptor_for i flags)) (new_held d flags e n (Mq (Some name) (empty_queue sizes)) (λ none. false≢true (none.1 is)) keeps)) (λ x. inr (opens, is, sym new)))))
        (refused NoEntry)))

    pub sem_opened : (name : List ℕ) (flags value : ℕ) → ((ps : List Place) (a : ℕ) → Finds c ps a l → IsFound semaphore_name name ps a l) → new_object c ≡ SemPlace (Some name) value
        → Step (λ f k p. sem_open k p name flags value)
    sem_opened name flags value found new = choice (has_flag o_creat flags && nat_lt sem_value_max value) _ _ (refused Invalid)
        (looked semaphore_name name (λ k p x. sem_look_up k p name (has_flag o_creat flags) (has_flag o_excl flags) value x) found
        (λ is. choice (has_flag o_creat flags && has_flag o_excl flags) _ _ (refused Exists)
        (read (position (slot_refers i) t.slots) (λ f u. position (slot_refers (f i)) u.slots) (λ f s. s) (λ f k p x. sem_open_place k p (f i) x)
        (λ f g h. slot_for-renamed f g h i t ∙ sym (option_map_id (position (slot_refers i) t.slots)))
        (by_free_slot (λ f k p x. new_slot k p (f i) x) (refused TooManyOpen) (λ s e. slot_held s (Some first_open) (Plain s) (λ n y. new_slot_held s e n y (λ none. none.0 is)))) (λ s e. once_more s)))
        (λ at. choice (has_flag o_creat flags) _ _ (by_free_slot (λ f k p x. sem_create k p name value x) (refused TooManyOpen) (λ s e. at (λ k p x. sem_create_at k p s name value x) (refused NoSpace) (λ is.
        put (λ x. SemPlace (Some name) value) (λ f x. with_slot_held x s (Some (record { place = f i; opens = 1 }))) (with_slot_held t s (Some first_open)) (Plain s)
        (λ f. with_slot_held-renamed f t s (Some first_open)) (λ n x keeps. slot_held_refers t s n (Some first_open) (new_slot_held s e n (SemPlace (Some name) value) (λ none. false≢true (none.1 is)) keeps)) (λ x. inr (opens, is, sym new)))))
        (refused NoEntry)))
      where
        first_open : Slot
        first_open = record { place = i; opens = 1 }

        once_more : (s : ℕ) → Step (λ f k p. one_more_open k p s (slot_of k.processes p s))
        once_more s = read (slot_by s t) (λ f. slot_by s) renamed_slot (λ f k p x. one_more_open k p s x) (λ f g h. slot_held-renamed f t s) (refused Invalid) (λ h e.
            choice (h.opens == opens_max) _ _ (refused TooManyOpen) (slot_held s (Some (record h { opens = h.opens + 1 })) (Plain s) (λ n x keeps. sym (ap (slot_refers n) e))))

  -- a call on what an open descriptor or slot refers to
  on_object : {H V : Type 0} (place : H → ℕ) (shown : (ℕ → ℕ) → H → H) (see : Place → Option V) (look : OpenTables → Option H) (call : KernelState → ℕ → Option (H × V) → Outcome)
      → ((f : ℕ → ℕ) (h : H) → place (shown f h) ≡ f (place h)) → ((f : ℕ → ℕ) → look (renamed_process f t) ≡ option_map (shown f) (look t)) → ((h : H) → look t ≡ Some h → place h ≡ i)
      → (o : Place) → ((x : Place) → Fits x → x ≡ o) → Step (λ f k p. call k p None) → ((h : H) (v : V) → look t ≡ Some h → place h ≡ i → Step (λ f k p. call k p (Some (shown f h, v))))
      → Step (λ f k p. call k p (option_and_then (λ h. option_map (λ v. (h, v)) (see (place_at k.places (place h)))) (look (process_at k.processes p))))
  on_object {H} {V} place shown see look call moved law at o fits none some =
      read (look t) (λ f. look) shown (λ f k p x. call k p (option_and_then (λ h. option_map (λ v. (h, v)) (see (place_at k.places (place h)))) x)) (λ f g h. law f) none (λ h e.
      same_as _ (λ f k p. call k p (option_map (λ v. (shown f h, v)) (see o)))
      (λ f g k p s. ap (λ n. call k p (option_map (λ v. (shown f h, v)) (see (place_at k.places n)))) (moved f h ∙ ap f (at h e))
      ∙ ap (λ x. call k p (option_map (λ v. (shown f h, v)) (see x))) (fits _ s.object)) (seen h e (see o)))
    where
      seen : (h : H) → look t ≡ Some h → (v : Option V) → Step (λ f k p. call k p (option_map (λ x. (shown f h, x)) v))
      seen h e None = none
      seen h e (Some v) = some h v e (at h e)

  module _ (o : Place) (fits : (x : Place) → Fits x → x ≡ o) (handled : handle_of c ≡ None → ⊥) where
    queue_call : (d : ℕ) (call : KernelState → ℕ → Option (Descriptor × QueueState) → Outcome) → ((h : Descriptor) → held_by d t ≡ Some h → h.place ≡ i) → Step (λ f k p. call k p None)
        → ((h : Descriptor) (q : QueueState) → held_by d t ≡ Some h → h.place ≡ i → Step (λ f k p. call k p (Some (renamed_descriptor f h, q)))) → Step (λ f k p. call k p (open_queue k p d))
    queue_call d call at none some = on_object (λ h. h.place) renamed_descriptor queue_in (held_by d) call (λ f h. refl) (λ f. held-renamed f t d) at o fits none some

    semaphore_call : (s : ℕ) (call : KernelState → ℕ → Option (Slot × ℕ) → Outcome) → ((h : Slot) → slot_by s t ≡ Some h → h.place ≡ i) → Step (λ f k p. call k p None)
        → ((h : Slot) (v : ℕ) → h.place ≡ i → Step (λ f k p. call k p (Some (renamed_slot f h, v)))) → Step (λ f k p. call k p (open_semaphore k p s))
    semaphore_call s call at none some =
        on_object (λ h. h.place) renamed_slot semaphore_value (slot_by s) call (λ f h. refl) (λ f. slot_held-renamed f t s) at o fits none (λ h v e there. some h v there)

    blocked : (h : Descriptor) → Step (λ f k p. wait_or_again k (renamed_descriptor f h))
    blocked h = choice h.nonblock _ _ (refused Again) (unchanged Wait)

    queue_changed : (q : QueueState) (h : Descriptor) (r : Reply) → h.place ≡ i → Step (λ f k p. completion (with_queue_at k (f h.place) q) r)
    queue_changed q h r at = changed (with_queue q) h.place r at (kind_queue q) handled

    value_changed : (v : ℕ) (h : Slot) → h.place ≡ i → Step (λ f k p. completion (with_value_at k (f h.place) v) (Plain 0))
    value_changed v h at = changed (with_value v) h.place (Plain 0) at (kind_value v) handled

    sent : (words : List ℕ) (prio : ℕ) (h : Descriptor) (q : QueueState) → h.place ≡ i → Step (λ f k p. mq_send k prio words (Some (renamed_descriptor f h, q)))
    sent words prio h q at =
        choice (h.access == 0) _ _ (refused BadDescriptor)
        (choice (nat_le mq_prio_max prio) _ _ (refused Invalid)
        (choice (nat_lt q.message_size (length words)) _ _ (refused MessageSize)
        (choice (nat_le q.max_messages (length q.messages)) _ _ (blocked h) (queue_changed (with_message prio words q) h (Plain 0) at))))

    first : (h : Descriptor) (q : QueueState) (ms : List Message) → h.place ≡ i → Step (λ f k p. take_first k (renamed_descriptor f h) q ms)
    first h q [] at = blocked h
    first h q (m ∷ rest) at = queue_changed (record q { messages = rest }) h (received m.words m.priority) at

    received_by : (len : ℕ) (h : Descriptor) (q : QueueState) → h.place ≡ i → Step (λ f k p. mq_receive k len (Some (renamed_descriptor f h, q)))
    received_by len h q at = choice (h.access == 1) _ _ (refused BadDescriptor) (choice (nat_lt len q.message_size) _ _ (refused MessageSize) (first h q q.messages at))

    flag_set : (d flags : ℕ) (h : Descriptor) (q : QueueState) → held_by d t ≡ Some h → Step (λ f k p. mq_setattr k p d flags (Some (renamed_descriptor f h, q)))
    flag_set d flags h q e = choice (has_flag 63487 flags) _ _ (refused Invalid)
        (held d (Some (record h { nonblock = has_flag o_nonblock flags })) (Attr (attributes h q)) (λ n x keeps. sym (ap (descriptor_refers n) e)))

-- what is open refers to place i
pub held_at : (t : OpenTables) (d i : ℕ) → ((n : ℕ) → place_of t (Mqd d) ≡ Some n → n ≡ i) → (h : Descriptor) → held_by d t ≡ Some h → h.place ≡ i
held_at t d i at h e = at h.place (ap (option_map (λ x. x.place)) e)

pub slot_at : (t : OpenTables) (s i : ℕ) → ((n : ℕ) → place_of t (Sem s) ≡ Some n → n ≡ i) → (h : Slot) → slot_by s t ≡ Some h → h.place ≡ i
slot_at t s i at h e = at h.place (ap (option_map (λ x. x.place)) e)

-- each call that works on one place
pub local : (c : Call) (i : ℕ) (t : OpenTables) (Fits : Place → Type 0) (l : Lookup) (o : Place) → ((x : Place) → Fits x → x ≡ o) → RefersTo c i t → is_local c ≡ true → IsLocal c i t Fits l (λ f k p. answer k p c)
unfolding answer
local (MqOpen name flags attr) i t Fits l o fits at is = mq_opened (MqOpen name flags attr) i t Fits l refl refl name (sizes_asked attr) (λ ps a x. x) refl (flags_read flags)
local (MqClose d) i t Fits l o fits at is = mq_closed (MqClose d) i t Fits l d refl (held_at t d i (λ n. at (Mqd d) n refl))
local (MqSend d words prio) i t Fits l o fits at is = queue_call (MqSend d words prio) i t Fits l o fits (λ e. cc) d (λ k p x. mq_send k prio words x) (held_at t d i (λ n. at (Mqd d) n refl))
    (refused _ i t Fits l BadDescriptor) (λ h q e. sent _ i t Fits l o fits (λ e. cc) words prio h q)
local (MqReceive d len) i t Fits l o fits at is = queue_call (MqReceive d len) i t Fits l o fits (λ e. cc) d (λ k p x. mq_receive k len x) (held_at t d i (λ n. at (Mqd d) n refl))
    (refused _ i t Fits l BadDescriptor) (λ h q e. received_by _ i t Fits l o fits (λ e. cc) len h q)
local (MqGetattr d) i t Fits l o fits at is = queue_call (MqGetattr d) i t Fits l o fits (λ e. cc) d (λ k p x. mq_getattr k x) (held_at t d i (λ n. at (Mqd d) n refl))
    (refused _ i t Fits l BadDescriptor) (λ h q e there. told _ i t Fits l (Attr (attributes h q)))
local (MqSetattr d flags) i t Fits l o fits at is = queue_call (MqSetattr d flags) i t Fits l o fits (λ e. cc) d (λ k p x. mq_setattr k p d flags x) (held_at t d i (λ n. at (Mqd d) n refl))
    (refused _ i t Fits l BadDescriptor) (λ h q e there. flag_set _ i t Fits l o fits (λ e. cc) d flags h q e)
local (SemOpen name flags value) i t Fits l o fits at is = sem_opened (SemOpen name flags value) i t Fits l refl refl name flags value (λ ps a x. x) refl
local (SemClose s) i t Fits l o fits at is = sem_closed (SemClose s) i t Fits l s refl (slot_at t s i (λ n. at (Sem s) n refl))
local (SemWait s) i t Fits l o fits at is = semaphore_call (SemWait s) i t Fits l o fits (λ e. cc) s (λ k p x. sem_wait k x) (slot_at t s i (λ n. at (Sem s) n refl)) (refused _ i t Fits l Invalid) (λ h v there.
    choice _ i t Fits l (v == 0) _ _ (unchanged _ i t Fits l Wait) (value_changed _ i t Fits l o fits (λ e. cc) (v - 1) h there))
local (SemTrywait s) i t Fits l o fits at is = semaphore_call (SemTrywait s) i t Fits l o fits (λ e. cc) s (λ k p x. sem_trywait k x) (slot_at t s i (λ n. at (Sem s) n refl)) (refused _ i t Fits l Invalid) (λ h v there.
    choice _ i t Fits l (v == 0) _ _ (refused _ i t Fits l Again) (value_changed _ i t Fits l o fits (λ e. cc) (v - 1) h there))
local (SemPost s) i t Fits l o fits at is = semaphore_call (SemPost s) i t Fits l o fits (λ e. cc) s (λ k p x. sem_post k x) (slot_at t s i (λ n. at (Sem s) n refl)) (refused _ i t Fits l Invalid) (λ h v there.
    choice _ i t Fits l (v == sem_value_max) _ _ (refused _ i t Fits l Overflow) (value_changed _ i t Fits l o fits (λ e. cc) (v + 1) h there))
local (SemGetvalue s) i t Fits l o fits at is = semaphore_call (SemGetvalue s) i t Fits l o fits (λ e. cc) s (λ k p x. sem_getvalue k x) (slot_at t s i (λ n. at (Sem s) n refl)) (refused _ i t Fits l Invalid)
    (λ h v there. told _ i t Fits l (Value v))
local other i t Fits l o fits at is = absurd (cc)

-- a call in a kernel as it is
pub here : (c : Call) (i : ℕ) (t : OpenTables) (Fits : Place → Type 0) (l : Lookup) (call : RenamedCall) (h : IsLocal c i t Fits l call) (k : KernelState) (p : ℕ)
    → process_at k.processes p ≡ t → Fits (place_at k.places i) → Finds c k.places i l
    → call (λ n. n) k p ≡ (h.reply, after h.completes (with_operand k p i (h.object (place_at k.places i)) h.tables))
here c i t Fits l call h k p has fits finds =
    h.same (λ n. n) (λ n. n) k p (record { permutation = permutation_itself; tables = has ∙ sym (process_id t); object = fits; finds = finds })
    ∙ ap (λ u. (h.reply, after h.completes (with_operand k p i (h.object (place_at k.places i)) u))) (process_id h.tables)
