-- A process's own calls commute with the calls of other processes that take no name away.
use Rattle.std.proofs.Common.{◌≡◌, ℕ, Bool, true, false, List, set, get_or-set_other, Option, Some, None, is_some, refl, sym, ap, subst, ◌∙◌, inl, inr, rules}
use Rattle.std.specs.Option.{option_map}
use Rattle.std.proofs.lemmas.List.{set_comm}
use Rattle.std.proofs.lemmas.Option.{unwrap_or-slice_get}
use Rattle.ipc_names.specs.Flags.{flags_read}
use Rattle.ipc_kernel.specs.declared.place.Place.{Place}
use Rattle.ipc_kernel.specs.declared.place.Place.TheVariants.{Empty}
use Rattle.ipc_kernel.specs.declared.process.OpenTables.{OpenTables}
use Rattle.ipc_kernel.specs.declared.call.Call.{Call}
use Rattle.ipc_kernel.specs.declared.call.Call.TheVariants.{MqOpen, MqClose, MqUnlink, SemOpen, SemClose, SemUnlink, Exit}
use Rattle.ipc_kernel.specs.declared.call.Handle.TheVariants.{Mqd, Slot as Sem}
use Rattle.ipc_kernel.specs.declared.call.Answer.{Answer}
use Rattle.ipc_kernel.specs.declared.call.Answer.TheVariants.{Done}
use Rattle.ipc_kernel.specs.declared.call.Reply.TheVariants.{Plain}
use Rattle.ipc_kernel.specs.Processes.{process_at, closed_process}
use Rattle.ipc_kernel.specs.Places.{place_at, queue_name, semaphore_name, queue_named, semaphore_named}
use Rattle.ipc_kernel.specs.Kernel.{KernelState}
use Rattle.ipc_kernel.specs.Outcomes.{Outcome}
use Rattle.ipc_kernel.specs.Queues.{sizes_asked}
use Rattle.ipc_kernel.specs.Answer.{answer}
use Rattle.ipc_kernel.specs.Alike.{IsRenaming, IsAlike}
use Rattle.ipc_kernel.specs.Operands.{are_named, handle_of}
use Rattle.ipc_kernel.specs.OwnCalls.{is_own, is_unlink, OwnCallsCommute, StartNamed, StayNamed, OwnAlike}
use Rattle.ipc_store.proofs.Renamings.{nobody}
use Rattle.ipc_store.proofs.Alikes.{alike_back}
use Rattle.ipc_store.proofs.AlikeOutcomes.{found_named}
use Rattle.ipc_store.proofs.NamedPlaces.{is_named, KeepNames, names_kept, all_by, keeps_left}
use Rattle.ipc_store.proofs.SettledTables.{all_at, settled_named, empty_named}
use Rattle.ipc_store.proofs.WorkPlaces.{Lookup, Named, New, Nowhere, Finds, is_local, any_handle, RefersTo, found, referred}
use Rattle.ipc_store.proofs.LocalCalls.{back, ended, IsLocal, local, here, after, after_settled, held_at, slot_at, mq_opened, mq_closed, sem_opened, sem_closed}

-- what a call makes of places ps and of the tables t of its process: the same in each kernel that has them, and each name keeps
-- its place
record IsOfTables (ps : List Place) (t : OpenTables) (call : KernelState → ℕ → Outcome) : Type 0 where
  reply : Answer
  places : List Place
  tables : OpenTables
  same : (k : KernelState) (p : ℕ) → k.places ≡ ps → process_at k.processes p ≡ t → call k p ≡ (reply, record { places = places; processes = set k.processes p tables })
  keeps : KeepNames ps places

-- what a call makes of the tables t of its process: the same in each kernel that has them and keeps the names, of which it changes
-- nothing else
pub record ChangesTables (ps : List Place) (t : OpenTables) (call : KernelState → ℕ → Outcome) : Type 0 where
  pub reply : Answer
  pub tables : OpenTables
  pub same : (k : KernelState) (p : ℕ) → KeepNames ps k.places → process_at k.processes p ≡ t → call k p ≡ (reply, record { places = k.places; processes = set k.processes p tables })

-- a call on one place
of_local : (ps : List Place) (t : OpenTables) (c : Call) → are_named ps ≡ true → is_local c ≡ true → (i : ℕ) (l : Lookup) → Finds c ps i l → RefersTo c i t → IsOfTables ps t (λ k p. answer k p c)
of_local ps t c named is i l finds refers = record {
  reply = h.reply;
  places = set ps i (h.object (place_at ps i));
  tables = h.tables;
  same = λ k p at has.
      here c i t (λ x. x ≡ place_at ps i) l _ h k p has (ap (λ qs. place_at qs i) at) (subst (λ qs. Finds c qs i l) (sym at) finds)
      ∙ ap (λ qs. (h.reply, after h.completes (record { places = set qs i (h.object (place_at qs i)); processes = set k.processes p h.tables }))) at
      ∙ ap (λ x. (h.reply, x)) (after_settled h.completes _ (settled_named (set k.processes p h.tables) (set ps i (h.object (place_at ps i))) keeps.named));
  keeps = keeps;
}
  where
    h : IsLocal c i t (λ x. x ≡ place_at ps i) l (λ f k p. answer k p c)
    h = local c i t (λ x. x ≡ place_at ps i) l (place_at ps i) (λ x e. e) refers is

    keeps : KeepNames ps (set ps i (h.object (place_at ps i)))
    keeps = keeps_left ps i c l _ named finds (h.leaves (place_at ps i))

-- each call that takes no name away
of_call : (ps : List Place) (t : OpenTables) (c : Call) → are_named ps ≡ true → is_unlink c ≡ false → IsOfTables ps t (λ k p. answer k p c)
unfolding answer
of_call ps t (MqUnlink name) named keeps = absurd (cc)
of_call ps t (SemUnlink name) named keeps = absurd (cc)
of_call ps t Exit named keeps = record {
  reply = Done (Plain 0);
  places = ps;
  tables = closed_process;
  same = λ k p at has. ended k p (ap are_named at ∙ named) ∙ ap (λ qs. (Done (Plain 0), record { places = qs; processes = set k.processes p closed_process })) at;
  keeps = names_kept ps named;
}
of_call ps t (MqOpen name flags attr) named keeps = let f = found queue_name ps name in of_local ps t (MqOpen name flags attr) named refl f.0 f.1 f.2 (λ h n e is. absurd (cc))
of_call ps t (SemOpen name flags value) named keeps = let f = found semaphore_name ps name in of_local ps t (SemOpen name flags value) named refl f.0 f.1 f.2 (λ h n e is. absurd (cc))
of_call ps t c named keeps = let r = referred t (any_handle c) in of_local ps t c named refl r.0 Nowhere tt r.1

-- an own call has the same answer, and makes the same of the tables of its process, in each kernel that keeps the names
own_local : (ps : List Place) (t : OpenTables) (c : Call) (i : ℕ) (l : Lookup) → handle_of c ≡ None → (l ≡ New → ⊥) → ((qs : List Place) → KeepNames ps qs → Finds c qs i l)
    → IsLocal c i t (λ x. Unit {0}) l (λ f k p. answer k p c) → ChangesTables ps t (λ k p. answer k p c)
own_local ps t c i l closes old finds h = record {
  reply = h.reply;
  tables = h.tables;
  same = λ k p keeps has.
      here c i t (λ x. Unit {0}) l _ h k p has tt (finds k.places keeps)
      ∙ ap (λ qs. (h.reply, after h.completes (record { places = qs; processes = set k.processes p h.tables }))) (back k.places i Empty _ (sym (stays (place_at k.places i))))
      ∙ ap (λ x. (h.reply, x)) (after_settled h.completes _ (settled_named (set k.processes p h.tables) k.places keeps.named));
}
  where
    stays : (x : Place) → h.object x ≡ x
    stays x = elim (h.leaves x) [ inl kind ↦ kind.1 closes | inr new ↦ absurd (old new.1) ]

-- what is there
pub there : {A : Type 0} (o : Option A) → is_some o ≡ true → (x : A) × (o ≡ Some x)
there x e = search rules

pub of_own : (ps : List Place) (t : OpenTables) (c : Call) → is_own ps c ≡ true → ChangesTables ps t (λ k p. answer k p c)
unfolding answer
of_own ps t (MqOpen name flags attr) own =
    let at = there (queue_named ps name) own in
    own_local ps t (MqOpen name flags attr) at.0 Named refl (λ e. cc) (λ qs keeps. keeps.queues name at.0 at.1)
    (mq_opened (MqOpen name flags attr) at.0 t (λ x. Unit {0}) Named refl refl name (sizes_asked attr) (λ qs a x. x) refl (flags_read flags))
of_own ps t (MqClose d) own =
    let r = referred t (Some (Mqd d)) in
    own_local ps t (MqClose d) r.0 Nowhere refl (λ e. cc) (λ qs keeps. tt) (mq_closed (MqClose d) r.0 t (λ x. Unit {0}) Nowhere d refl (held_at t d r.0 (λ n. r.1 (Mqd d) n refl)))
of_own ps t (SemOpen name flags value) own =
    let at = there (semaphore_named ps name) own in
    own_local ps t (SemOpen name flags value) at.0 Named refl (λ e. cc) (λ qs keeps. keeps.semaphores name at.0 at.1)
    (sem_opened (SemOpen name flags value) at.0 t (λ x. Unit {0}) Named refl refl name flags value (λ qs a x. x) refl)
of_own ps t (SemClose s) own =
    let r = referred t (Some (Sem s)) in
    own_local ps t (SemClose s) r.0 Nowhere refl (λ e. cc) (λ qs keeps. tt) (sem_closed (SemClose s) r.0 t (λ x. Unit {0}) Nowhere s refl (slot_at t s r.0 (λ n. r.1 (Sem s) n refl)))
of_own ps t Exit own = record { reply = Done (Plain 0); tables = closed_process; same = λ k p keeps has. ended k p keeps.named }
of_own ps t other own = absurd (cc)

-- a call is own still where names are kept
still_there : (x y : Option ℕ) → ((i : ℕ) → x ≡ Some i → y ≡ Some i) → is_some x ≡ true → is_some y ≡ true
still_there x y keeps e = let found = there x e in ap is_some (keeps found.0 found.1)

own_kept : (ps qs : List Place) (c : Call) → KeepNames ps qs → is_own ps c ≡ true → is_own qs c ≡ true
own_kept ps qs (MqOpen name flags attr) keeps own = still_there (queue_named ps name) (queue_named qs name) (keeps.queues name) own
own_kept ps qs (SemOpen name flags value) keeps own = still_there (semaphore_named ps name) (semaphore_named qs name) (keeps.semaphores name) own
own_kept ps qs other keeps own = own

-- the tables of another process
pub process_at-set_other : (ts : List OpenTables) (p q : ℕ) (t : OpenTables) → (p ≡ q → ⊥) → process_at (set ts p t) q ≡ process_at ts q
process_at-set_other ts p q t other = simp (unwrap_or-slice_get, get_or-set_other ts p q t nobody (λ e. other (sym e)))

pub own_calls_commute : OwnCallsCommute
own_calls_commute k p q c d other named own keeps =
    let mine = of_own k.places (process_at k.processes p) c own in
    let theirs = of_call k.places (process_at k.processes q) d named keeps in
    let mine_first = mine.same k p (names_kept k.places named) refl in
    let theirs_first = theirs.same k q refl refl in
    let theirs_second = theirs.same (record { places = k.places; processes = set k.processes p mine.tables }) q refl (process_at-set_other k.processes p q mine.tables other) in
    let mine_second =
    mine.same (record { places = theirs.places; processes = set k.processes q theirs.tables }) p theirs.keeps (process_at-set_other k.processes q p theirs.tables (λ e. other (sym e))) in
    let both = set_comm k.processes p q mine.tables theirs.tables other in
    record {
      second = simp (mine_first, theirs_first, theirs_second);
      first = simp (mine_first, theirs_first, mine_second);
      kernel = simp (mine_first, theirs_first, theirs_second, mine_second, both);
      own = ap (λ (o : Outcome). is_own o.1.places c) theirs_first ∙ own_kept k.places theirs.places c theirs.keeps own;
    }

pub start_named : StartNamed
start_named n = empty_named 64

pub stay_named : StayNamed
stay_named k p c named keeps =
    let call = of_call k.places (process_at k.processes p) c named keeps in
    ap (λ (o : Outcome). are_named o.1.places) (call.same k p refl refl) ∙ call.keeps.named

-- each object of a renamed kernel has a name too
named_alike : (k j : KernelState) → IsAlike k j → are_named k.places ≡ true → are_named j.places ≡ true
named_alike k j a named = all_by is_named j.places Empty (λ i.
    let r : IsRenaming a.0 a.1 k j = a.2 in
    ap is_named (sym (ap (place_at j.places) (r.permutation.redone i)) ∙ r.places (a.1 i)) ∙ all_at is_named k.places (a.1 i) Empty refl named)

same_truth : (b c : Bool) → (b ≡ true → c ≡ true) → (c ≡ true → b ≡ true) → c ≡ b
same_truth x c h i = search rules

some_renamed : (f : ℕ → ℕ) (o : Option ℕ) → is_some (option_map f o) ≡ is_some o
some_renamed f x = search rules

pub own_alike : OwnAlike
own_alike k j c s a = (own c, same_truth (are_named k.places) (are_named j.places) (named_alike k j a) (named_alike j k (alike_back k j a)))
  where
    own : (x : Call) → is_own j.places x ≡ is_own k.places x
    own (MqOpen name flags attr) = ap is_some (found_named a.0 a.1 k j a.2 queue_name refl s.queues name) ∙ some_renamed a.0 (queue_named k.places name)
    own (SemOpen name flags value) = ap is_some (found_named a.0 a.1 k j a.2 semaphore_name refl s.semaphores name) ∙ some_renamed a.0 (semaphore_named k.places name)
    own other = refl
