-- The calls that no other process can notice: what they make, and that they commute with calls within the uses.
use Rattle.std.proofs.Common.{◌≡◌, ℕ, ◌+◌, ◌-◌, ◌<◌, ◌==◌, position, Bool, true, false, cond, not, nat_lt, nat_le, ◌||◌, ◌&&◌, List, [], ◌∷◌, zero, suc, length, set, get_or, get_or-set_other, Option, Some, None, is_some, unwrap_or, slice_get, option_and_then, refl, sym, ap, subst, ◌∙◌, inl, inr, ◌⊎◌, arith, rules}
use Rattle.std.specs.List.{list_all}
use Rattle.std.specs.Option.{option_map}
use Rattle.std.proofs.lemmas.Bool.{and_parts, or_right, or_left, or_parts}
use Rattle.std.proofs.lemmas.Bool.Decides.{eqb_tells}
use Rattle.std.proofs.lemmas.List.{set_comm, set-set}
use Rattle.std.proofs.lemmas.Option.{unwrap_or-slice_get}
use Rattle.ipc_objects.specs.declared.queue.Message.{Message}
use Rattle.ipc_objects.specs.Limits.{sem_value_max, mq_prio_max}
use Rattle.ipc_objects.specs.Queue.{QueueState}
use Rattle.ipc_kernel.specs.declared.place.Place.{Place}
use Rattle.ipc_kernel.specs.declared.place.Place.TheVariants.{Empty, Mq, Sem as SemPlace}
use Rattle.ipc_kernel.specs.declared.process.OpenTables.{OpenTables}
use Rattle.ipc_kernel.specs.declared.process.Descriptor.{Descriptor}
use Rattle.ipc_kernel.specs.declared.call.Call.{Call}
use Rattle.ipc_kernel.specs.declared.call.Call.TheVariants.{MqOpen, MqClose, MqUnlink, MqSend, MqReceive, MqGetattr, MqSetattr, SemOpen, SemClose, SemUnlink, SemWait, SemTrywait, SemPost, SemGetvalue, Exit}
use Rattle.ipc_kernel.specs.declared.call.Handle.TheVariants.{Mqd, Slot as Sem}
use Rattle.ipc_kernel.specs.declared.call.Reply.TheVariants.{Plain}
use Rattle.ipc_kernel.specs.declared.call.Answer.{Answer}
use Rattle.ipc_kernel.specs.declared.call.Answer.TheVariants.{Done, Wait as Waits}
use Rattle.ipc_kernel.specs.Processes.{process_at}
use Rattle.ipc_kernel.specs.Places.{place_at, is_empty, has_name, is_name, queue_name, semaphore_name, place_named, queue_named, semaphore_named}
use Rattle.ipc_kernel.specs.Kernel.{KernelState}
use Rattle.ipc_kernel.specs.Outcomes.{Outcome}
use Rattle.ipc_kernel.specs.Answer.{answer}
use Rattle.ipc_kernel.specs.Operands.{are_named, handle_of, place_of, with_operand}
use Rattle.ipc_kernel.specs.OwnCalls.{is_own, is_unlink}
use Rattle.ipc_kernel.proofs.PlaceLemmas.{first_empty_place}
use Rattle.ipc_kernel.proofs.IndexLemmas.{is_name-itself}
use Rattle.ipc_store.specs.declared.uses.Use.{Use}
use Rattle.ipc_store.specs.declared.uses.Use.TheVariants.{Wait, Look, Post, Send, SendAtOnce, Receive, ReceiveAtOnce, Attributes}
use Rattle.ipc_store.specs.declared.uses.ProcessUse.{ProcessUse}
use Rattle.ipc_store.specs.Uses.{object_name, is_nonblock, use_of, place_used, is_low, are_low, goes_first, goes_last, are_none, goes_on_with, is_noticed, is_unnoticed, IsListed}
use Rattle.ipc_store.proofs.Renamings.{held_by}
use Rattle.ipc_store.proofs.SettledTables.{settled_named, all_at}
use Rattle.ipc_store.proofs.NamedPlaces.{is_named, all_set, position_set, keeps_left, names_kept}
use Rattle.ipc_store.proofs.WorkPlaces.{Lookup, Named, New, Nowhere, IsFound, Finds, is_local, any_handle, RefersTo, IsKind, MayLeave, kind_itself, kind_queue, kind_value}
use Rattle.ipc_store.proofs.LocalCalls.{IsLocal, local, here, after, after_settled}
use Rattle.ipc_store.proofs.CommutingCalls.{own_calls_commute, of_own, process_at-set_other, there}
use Rattle.ipc_store.proofs.UsedObjects.{outcome, with_places, with_object, Makes, held_there, post, wait, wait_none, trywait, getvalue, receive, send, take, take_by, give, give_by}
use Rattle.ipc_store.proofs.SwappedQueues.{AreSwapped, is_full, swapped_queue, swapped_none, room_of, taken_done, given_done, first_stays, last_stays}

-- what was written is read
written_at : (ps : List Place) (i : ℕ) (x : Place) → is_empty (place_at ps i) ≡ false → place_at (set ps i x) i ≡ x
written_at [] i x full = absurd (cc)
written_at (y ∷ ps) zero x full = refl
written_at (y ∷ ps) (suc i) x full = written_at ps i x full

pub other_at : (ps : List Place) (i j : ℕ) (x : Place) → (j ≡ i → ⊥) → place_at (set ps i x) j ≡ place_at ps j
other_at ps i j x apart = simp (unwrap_or-slice_get, get_or-set_other ps i j x Empty apart)

-- two calls of two processes, of which the second leaves y in the place of the first
pub record AreExchanged (k : KernelState) (p q i : ℕ) (c d : Call) (y : Place) : Type 0 where
  pub second : (answer (answer k p c).1 q d).0 ≡ (answer k q d).0
  pub first : (answer (answer k q d).1 p c).0 ≡ (answer k p c).0
  pub kernel : (answer (answer k p c).1 q d).1 ≡ (answer (answer k q d).1 p c).1
  pub tables : process_at (answer k q d).1.processes p ≡ process_at k.processes p
  pub object : place_at (answer k q d).1.places i ≡ y

exchanged : (k one two both : KernelState) (p q i : ℕ) (c d : Call) (y : Place) (a b : Answer) → answer k p c ≡ outcome a one → answer one q d ≡ outcome b both → answer k q d ≡ outcome b two
    → answer two p c ≡ outcome a both → process_at two.processes p ≡ process_at k.processes p → place_at two.places i ≡ y → AreExchanged k p q i c d y
exchanged k one two both p q i c d y a b mine theirs_then theirs mine_then tables object = record {
  second = ap (λ (o : Outcome). (answer o.1 q d).0) mine ∙ ap (λ (o : Outcome). o.0) theirs_then ∙ sym (ap (λ (o : Outcome). o.0) theirs);
  first = ap (λ (o : Outcome). (answer o.1 p c).0) theirs ∙ ap (λ (o : Outcome). o.0) mine_then ∙ sym (ap (λ (o : Outcome). o.0) mine);
  kernel =
      ap (λ (o : Outcome). (answer o.1 q d).1) mine ∙ ap (λ (o : Outcome). o.1) theirs_then
      ∙ sym (ap (λ (o : Outcome). (answer o.1 p c).1) theirs ∙ ap (λ (o : Outcome). o.1) mine_then);
  tables = ap (λ (o : Outcome). process_at o.1.processes p) theirs ∙ tables;
  object = ap (λ (o : Outcome). place_at o.1.places i) theirs ∙ object;
}

-- two calls on one object
on_one : (k : KernelState) (p q i : ℕ) (c d : Call) (o x y z : Place) (a b : Answer) → are_named k.places ≡ true → place_at k.places i ≡ o → is_empty o ≡ false → is_named x ≡ true → is_named y ≡ true
    → Makes c (process_at k.processes p) i o a x → Makes d (process_at k.processes q) i x b z → Makes d (process_at k.processes q) i o b y → Makes c (process_at k.processes p) i y a z
    → AreExchanged k p q i c d y
on_one k p q i c d o x y z a b all at full new_x new_y mine theirs_then theirs mine_then =
    let there = ap is_empty at ∙ full in
    exchanged k (with_object k i x) (with_object k i y) (with_object (with_object k i x) i z) p q i c d y a b (mine k p all refl at)
    (theirs_then (with_object k i x) q (all_set is_named k.places i x new_x all) refl (written_at k.places i x there)) (theirs k q all refl at)
    (mine_then (with_object k i y) p (all_set is_named k.places i y new_y all) refl (written_at k.places i y there)
    ∙ ap (λ ps. outcome a (with_places k ps)) (set-set k.places i y z ∙ sym (set-set k.places i x z)))
    refl (written_at k.places i y there)

-- an open finds the same, where another state of an object is written
found_kept : (name_of : Place → Option (List ℕ)) (name : List ℕ) (ps : List Place) (i : ℕ) (x : Place) (j : ℕ) (l : Lookup) → is_empty x ≡ is_empty (place_at ps i) → name_of x ≡ name_of (place_at ps i)
    → IsFound name_of name ps j l → IsFound name_of name (set ps i x) j l
found_kept name_of name ps i x j l filled named = by l
  where
    names : place_named name_of (set ps i x) name ≡ place_named name_of ps name
    names = position_set (λ p. is_name name (name_of p)) ps i x Empty (ap (is_name name) named)

    empties : position is_empty (set ps i x) ≡ position is_empty ps
    empties = position_set is_empty ps i x Empty filled

    by : (m : Lookup) → IsFound name_of name ps j m → IsFound name_of name (set ps i x) j m
    by Named f = names ∙ f
    by New f = (names ∙ f.0, empties ∙ f.1)
    by Nowhere f = (names ∙ f.0, empties ∙ f.1)

finds_kept : (d : Call) (ps : List Place) (i : ℕ) (x : Place) (j : ℕ) (l : Lookup) → IsKind (place_at ps i) x → Finds d ps j l → Finds d (set ps i x) j l
finds_kept (MqOpen name flags attr) ps i x j l kind f = found_kept queue_name name ps i x j l kind.filled kind.queue f
finds_kept (SemOpen name flags value) ps i x j l kind f = found_kept semaphore_name name ps i x j l kind.filled kind.semaphore f
finds_kept other ps i x j l kind f = f

-- what an unnoticed call makes of its object
pub record IsActing (c : Call) (t : OpenTables) (i : ℕ) (o : Place) : Type 0 where
  pub reply : Answer
  pub object : Place
  pub makes : Makes c t i o reply object
  pub kind : IsKind o object
  pub full : is_empty o ≡ false
  pub new : is_named object ≡ true
  pub name : object_name object ≡ object_name o
  pub low : is_low object ≡ true → is_low o ≡ true
  pub answered : reply ≡ Waits → ⊥
  pub keeps : is_unlink c ≡ false

below_is_other : (v m : ℕ) → nat_lt v m ≡ true → (v == m) ≡ false
below_is_other v m e = grind arith

above_is_other : (v : ℕ) → nat_lt 0 v ≡ true → (v == 0) ≡ false
above_is_other v e = grind arith

less_low : (v m : ℕ) → nat_le (v + 1) m ≡ true → nat_le v m ≡ true
less_low v m e = grind arith

room_below : (n m : ℕ) → nat_lt n m ≡ true → nat_le m n ≡ false
room_below n m e = grind arith

pub acting : (c : Call) (t : OpenTables) (i : ℕ) (o : Place) → place_used t c ≡ Some i → is_named o ≡ true → goes_on_with o c ≡ true → IsActing c t i o
acting (SemPost s) t i (SemPlace n v) opens named goes = record {
  reply = Done (Plain 0);
  object = SemPlace n (v + 1);
  makes = post s i v t n opens named (below_is_other v sem_value_max goes);
  kind = kind_value (v + 1) (SemPlace n v);
  full = refl;
  new = named;
  name = refl;
  low = λ e. less_low v (sem_value_max - 2) e;
  answered = λ e. cc;
  keeps = refl;
}
acting (SemWait s) t i (SemPlace n v) opens named goes =
    let both = and_parts (nat_lt 0 v) (nat_le v (sem_value_max - 2)) goes in
    record {
      reply = Done (Plain 0);
      object = SemPlace n (v - 1);
      makes = wait s i v t n opens named (above_is_other v both.0);
      kind = kind_value (v - 1) (SemPlace n v);
      full = refl;
      new = named;
      name = refl;
      low = λ e. both.1;
      answered = λ e. cc;
      keeps = refl;
    }
acting (SemTrywait s) t i (SemPlace n v) opens named goes =
    let h = trywait s i v t n opens named in
    record { reply = Done h.0; object = SemPlace n h.1; makes = h.2; kind = kind_value h.1 (SemPlace n v); full = refl; new = named; name = refl; low = λ e. goes; answered = λ e. cc; keeps = refl }
acting (SemGetvalue s) t i (SemPlace n v) opens named goes = record {
  reply = _;
  object = SemPlace n v;
  makes = getvalue s i v t n opens named;
  kind = kind_itself (SemPlace n v);
  full = refl;
  new = named;
  name = refl;
  low = λ e. e;
  answered = λ e. cc;
  keeps = refl;
}
acting (MqReceive d len) t i (Mq n q) opens named goes =
    let h = held_there t d i opens in
    record {
      reply = (take h.0 len q).0;
      object = Mq n (take h.0 len q).1;
      makes = receive d len i t n q h.0 h.1 h.2 named;
      kind = kind_queue (take h.0 len q).1 (Mq n q);
      full = refl;
      new = named;
      name = refl;
      low = λ e. refl;
      answered = taken_done (h.0.access == 1) (nat_lt len q.message_size) h.0 q q.messages refl (some q.messages goes);
      keeps = refl;
    }
  where
    some : (ms : List Message) → not (are_none ms) ≡ true → are_none ms ≡ false
    some [] e = absurd (cc)
    some (m ∷ ms) e = refl
acting (MqSend d words prio) t i (Mq n q) opens named goes =
    let h = held_there t d i opens in
    record {
      reply = (give h.0 prio words q).0;
      object = Mq n (give h.0 prio words q).1;
      makes = send d prio i words t n q h.0 h.1 h.2 named;
      kind = kind_queue (give h.0 prio words q).1 (Mq n q);
      full = refl;
      new = named;
      name = refl;
      low = λ e. refl;
      answered = given_done (h.0.access == 0) (nat_le mq_prio_max prio) (nat_lt q.message_size (length words)) (is_full q) h.0 prio words q (room_below (length q.messages) q.max_messages goes);
      keeps = refl;
    }
acting c t i Empty opens named goes = absurd (cc)
acting c t i (Mq n q) opens named goes = absurd (cc)
acting c t i (SemPlace n v) opens named goes = absurd (cc)

-- a call that works elsewhere
elsewhere : (k : KernelState) (p q i j : ℕ) (c d : Call) (o : Place) (l : Lookup) → (p ≡ q → ⊥) → are_named k.places ≡ true → place_at k.places i ≡ o → IsActing c (process_at k.processes p) i o → is_local d ≡ true
    → (j ≡ i → ⊥) → RefersTo d j (process_at k.processes q) → Finds d k.places j l → AreExchanged k p q i c d o
elsewhere k p q i j c d o l other all at acts is apart refers finds = exchanged k one two both p q i c d o acts.reply D.reply (acts.makes k p all refl at) theirs_then theirs mine_then tables (stays ∙ at)
  where
    t : OpenTables
    t = process_at k.processes q

    D : IsLocal d j t (λ y. y ≡ place_at k.places j) l (λ f k p. answer k p d)
    D = local d j t (λ y. y ≡ place_at k.places j) l (place_at k.places j) (λ y e. e) refers is

    y : Place
    y = D.object (place_at k.places j)

    one : KernelState
    one = with_object k i acts.object

    two : KernelState
    two = with_operand k q j y D.tables

    both : KernelState
    both = with_operand one q j y D.tables

    same : place_at one.places j ≡ place_at k.places j
    same = other_at k.places i j acts.object apart

    named_one : are_named one.places ≡ true
    named_one = all_set is_named k.places i acts.object acts.new all

    found : Finds d one.places j l
    found = finds_kept d k.places i acts.object j l (subst (λ w. IsKind w acts.object) (sym at) acts.kind) finds

    named_two : are_named two.places ≡ true
    named_two = (keeps_left k.places j d l y all finds (D.leaves (place_at k.places j))).named

    named_both : are_named both.places ≡ true
    named_both = (keeps_left one.places j d l y named_one found (subst (λ w. MayLeave d l w y) (sym same) (D.leaves (place_at k.places j)))).named

    theirs : answer k q d ≡ outcome D.reply two
    theirs = here d j t (λ y. y ≡ place_at k.places j) l _ D k q refl refl finds ∙ ap (outcome D.reply) (after_settled D.completes two (settled_named two.processes two.places named_two))

    theirs_then : answer one q d ≡ outcome D.reply both
    theirs_then =
        here d j t (λ y. y ≡ place_at k.places j) l _ D one q refl same found
        ∙ ap (λ w. outcome D.reply (after D.completes (with_operand one q j (D.object w) D.tables))) same
        ∙ ap (outcome D.reply) (after_settled D.completes both (settled_named both.processes both.places named_both))

    stays : place_at two.places i ≡ place_at k.places i
    stays = other_at k.places j i y (λ e. apart (sym e))

    tables : process_at two.processes p ≡ process_at k.processes p
    tables = process_at-set_other k.processes q p D.tables (λ e. other (sym e))

    mine_then : answer two p c ≡ outcome acts.reply both
    mine_then = acts.makes two p named_two tables (stays ∙ at) ∙ ap (λ ps. outcome acts.reply (with_places two ps)) (set_comm k.places j i y acts.object apart)

-- a use of another process isn't noticed
all_there : {A : Type 0} (test : A → Bool) (xs : List A) (j : ℕ) (x : A) → slice_get xs j ≡ Some x → list_all test xs ≡ true → test x ≡ true
all_there test [] j x e all = absurd (cc)
all_there test (y ∷ ys) zero x e all = let same : y ≡ x = cc in subst (λ z. test z ≡ true) same (and_parts (test y) (list_all test ys) all).0
all_there test (y ∷ ys) (suc j) x e all = all_there test ys j x e (and_parts (test y) (list_all test ys) all).1

last_of : (a b c : Bool) → a ≡ false → b ≡ true → (a || not b || not c) ≡ true → c ≡ false
last_of true b c e f all = absurd (cc)
last_of false false c e f all = absurd (cc)
last_of false true true e f all = absurd (cc)
last_of false true false e f all = refl

other_number : (p q : ℕ) → (p ≡ q → ⊥) → (q == p) ≡ false
other_number p q other = elim (eqb_tells q p) [ inl same ↦ absurd (other (sym same.1)) | inr apart ↦ apart.0 ]

pub not_noticed : (uses : List ProcessUse) (p q : ℕ) (o : Place) (c : Call) (n : List ℕ) (u : Use) → (p ≡ q → ⊥) → is_unnoticed uses p o c ≡ true → object_name o ≡ Some n → IsListed uses q n u → is_noticed o c u ≡ false
not_noticed uses p q o c n u other unnoticed name listed =
    last_of (q == p) (is_name n (object_name o)) (is_noticed o c u) (other_number p q other) (is_name-itself n (object_name o) name)
    (all_there (λ it. it.pid == p || not (is_name it.name (object_name o)) || not (is_noticed o c it.made)) uses listed.0 (record { pid = q; name = n; made = u }) listed.1
    (and_parts (goes_on_with o c) _ unnoticed).1)

-- a call that is unnoticed with one state of an object is so with another one, where what isn't noticed with the one isn't with the other
all_weaker : {A : Type 0} (f g : A → Bool) (xs : List A) → ((x : A) → f x ≡ true → g x ≡ true) → list_all f xs ≡ true → list_all g xs ≡ true
all_weaker f g [] h e = refl
all_weaker f g (x ∷ xs) h e = let both = and_parts (f x) (list_all f xs) e in ap (λ b. b && list_all g xs) (h x both.0) ∙ all_weaker f g xs h both.1

weaker_last : (a b c d : Bool) → (c ≡ false → d ≡ false) → (a || not b || not c) ≡ true → (a || not b || not d) ≡ true
weaker_last true b c d h e = refl
weaker_last false false c d h e = refl
weaker_last false true true d h e = absurd (cc)
weaker_last false true false d h e = ap not (h refl)

unnoticed_on : (uses : List ProcessUse) (p : ℕ) (o y : Place) (c : Call) → goes_on_with y c ≡ true → object_name y ≡ object_name o → ((u : Use) → is_noticed o c u ≡ false → is_noticed y c u ≡ false)
    → is_unnoticed uses p o c ≡ true → is_unnoticed uses p y c ≡ true
unnoticed_on uses p o y c goes name weaker unnoticed =
    let test : Place → ProcessUse → Bool = λ w it. it.pid == p || not (is_name it.name (object_name w)) || not (is_noticed w c it.made) in
    ap (λ b. b && list_all (test y) uses) goes
    ∙ all_weaker (test o) (test y) uses (λ it e.
    weaker_last (it.pid == p) (is_name it.name (object_name y)) (is_noticed o c it.made) (is_noticed y c it.made) (weaker it.made)
    (subst (λ m. (it.pid == p || not (is_name it.name m) || not (is_noticed o c it.made)) ≡ true) (sym name) e))
    (and_parts (goes_on_with o c) _ unnoticed).1

-- what comes of an unnoticed call of process p and a call of process q
pub record AreMet (uses : List ProcessUse) (k : KernelState) (p q i : ℕ) (c d : Call) : Type 0 where
  pub object : Place
  pub exchanged : AreExchanged k p q i c d object
  pub unnoticed : is_unnoticed uses p object c ≡ true
  pub name : object_name object ≡ object_name (place_at k.places i)

module _ (uses : List ProcessUse) (k : KernelState) (p q i : ℕ) (c d : Call) (o : Place) (other : p ≡ q → ⊥) (all : are_named k.places ≡ true) (at : place_at k.places i ≡ o)
    (acts : IsActing c (process_at k.processes p) i o) (unnoticed : is_unnoticed uses p o c ≡ true) where
  -- a call of the tables of its process alone
  pub met_own : is_own k.places d ≡ true → AreMet uses k p q i c d
  met_own own =
      let h = own_calls_commute k q p d c (λ e. other (sym e)) all own acts.keeps in
      let theirs = of_own k.places (process_at k.processes q) d own in
      let is = theirs.same k q (names_kept k.places all) refl in
      record {
        object = o;
        exchanged = record {
          second = h.first;
          first = h.second;
          kernel = sym h.kernel;
          tables = ap (λ (x : Outcome). process_at x.1.processes p) is ∙ process_at-set_other k.processes q p theirs.tables (λ e. other (sym e));
          object = ap (λ (x : Outcome). place_at x.1.places i) is ∙ at;
        };
        unnoticed = unnoticed;
        name = ap object_name (sym at);
      }

  met_elsewhere : (j : ℕ) (l : Lookup) → is_local d ≡ true → (j ≡ i → ⊥) → RefersTo d j (process_at k.processes q) → Finds d k.places j l → AreMet uses k p q i c d
  met_elsewhere j l is apart refers finds =
      record { object = o; exchanged = elsewhere k p q i j c d o l other all at acts is apart refers finds; unnoticed = unnoticed; name = ap object_name (sym at) }

  -- an open
  next_is_other : (n : ℕ) → suc n ≡ n → ⊥
  next_is_other n e = absurd (omega arith)

  pub met_open : (name_of : Place → Option (List ℕ)) (name : List ℕ) → is_local d ≡ true
      → ((j : ℕ) → RefersTo d j (process_at k.processes q)) → ((j : ℕ) (l : Lookup) → IsFound name_of name k.places j l → Finds d k.places j l)
      → ((j : ℕ) → place_named name_of k.places name ≡ Some j → is_own k.places d ≡ true) → AreMet uses k p q i c d
  met_open name_of name is refers finds own = by (place_named name_of k.places name) (position is_empty k.places) refl refl
    where
      by : (x y : Option ℕ) → place_named name_of k.places name ≡ x → position is_empty k.places ≡ y → AreMet uses k p q i c d
      by (Some j) y e f = met_own (own j e)
      by None (Some j) e f =
          let empty = first_empty_place k.places j f in
          met_elsewhere j New is (λ same. let full : is_empty (place_at k.places j) ≡ false = ap (λ n. is_empty (place_at k.places n)) same ∙ ap is_empty at ∙ acts.full in absurd (cc)) (refers j) (finds j New (e, f))
      by None None e f = met_elsewhere (suc i) Nowhere is (next_is_other i) (refers (suc i)) (finds (suc i) Nowhere (e, f))

  -- a call on an open object
  pub met_handle : is_local d ≡ true → any_handle d ≡ handle_of d → ((j : ℕ) → Finds d k.places j Nowhere) → (place_used (process_at k.processes q) d ≡ Some i → AreMet uses k p q i c d) → AreMet uses k p q i c d
  met_handle is handle finds on_it = by (place_used (process_at k.processes q) d) refl
    where
      refers : (j : ℕ) → (x : Option ℕ) → place_used (process_at k.processes q) d ≡ x → ((m : ℕ) → x ≡ Some m → m ≡ j) → RefersTo d j (process_at k.processes q)
      refers j x e h a m names at_m = h m (sym e ∙ ap (option_and_then (place_of (process_at k.processes q))) (sym handle ∙ names) ∙ at_m)

      by : (x : Option ℕ) → place_used (process_at k.processes q) d ≡ x → AreMet uses k p q i c d
      by None e = met_elsewhere (suc i) Nowhere is (next_is_other i) (refers (suc i) None e (λ m n. absurd (cc))) (finds (suc i))
      by (Some j) e = elim (eqb_tells j i) [
        | inl same ↦ on_it (e ∙ ap (λ n. Some n) same.1)
        | inr apart ↦ met_elsewhere j Nowhere is apart.1 (refers j (Some j) e (λ m n. cc)) (finds j)
      ]

-- a post, and a post or a wait on its semaphore
post_noticed : (n : Option (List ℕ)) (v w s : ℕ) (u : Use) → is_noticed (SemPlace n v) (SemPost s) u ≡ false → is_noticed (SemPlace n w) (SemPost s) u ≡ false
post_noticed n v w s Wait e = refl
post_noticed n v w s Post e = refl
post_noticed n v w s other e = absurd (cc)

two_more : (v m : ℕ) → nat_le v (m - 2) ≡ true → 2 < m → ((v + 1 == m) ≡ false) × (nat_lt (v + 1) m ≡ true)
two_more v m e big = (grind arith, grind arith)

pub post_and_post : (uses : List ProcessUse) (k : KernelState) (p q i s r v : ℕ) (n : Option (List ℕ)) → are_named k.places ≡ true → is_named (SemPlace n v) ≡ true → place_at k.places i ≡ SemPlace n v
    → place_used (process_at k.processes p) (SemPost s) ≡ Some i → place_used (process_at k.processes q) (SemPost r) ≡ Some i → nat_le v (sem_value_max - 2) ≡ true
    → is_unnoticed uses p (SemPlace n v) (SemPost s) ≡ true → AreMet uses k p q i (SemPost s) (SemPost r)
post_and_post uses k p q i s r v n all named at mine theirs low unnoticed =
    let more = two_more v sem_value_max low (omega arith) in
    let goes = below_is_other v sem_value_max (and_parts (goes_on_with (SemPlace n v) (SemPost s)) _ unnoticed).0 in
    record {
      object = SemPlace n (v + 1);
      exchanged = on_one k p q i (SemPost s) (SemPost r) (SemPlace n v) (SemPlace n (v + 1)) (SemPlace n (v + 1)) (SemPlace n (v + 1 + 1)) _ _ all at refl named named
          (post s i v _ n mine named goes) (post r i (v + 1) _ n theirs named more.0) (post r i v _ n theirs named goes) (post s i (v + 1) _ n mine named more.0);
      unnoticed = unnoticed_on uses p (SemPlace n v) (SemPlace n (v + 1)) (SemPost s) more.1 refl (post_noticed n v (v + 1) s) unnoticed;
      name = sym (ap object_name at);
    }

value_back : (v : ℕ) → (v == 0) ≡ false → ((v + 1 - 1) ≡ v) × ((v - 1 + 1) ≡ v)
value_back v e = (omega arith, let some = e in grind arith)

not_greatest : (v m : ℕ) → nat_lt v m ≡ true → ((v - 1 == m) ≡ false) × (nat_lt (v - 1) m ≡ true)
not_greatest v m e = (grind arith, grind arith)

more_than_none : (v : ℕ) → (v + 1 == 0) ≡ false
more_than_none v = grind arith

pub post_and_wait : (uses : List ProcessUse) (k : KernelState) (p q i s r v : ℕ) (n : Option (List ℕ)) → are_named k.places ≡ true → is_named (SemPlace n v) ≡ true → place_at k.places i ≡ SemPlace n v
    → place_used (process_at k.processes p) (SemPost s) ≡ Some i → place_used (process_at k.processes q) (SemWait r) ≡ Some i → ((answer k q (SemWait r)).0 ≡ Waits → ⊥)
    → is_unnoticed uses p (SemPlace n v) (SemPost s) ≡ true → AreMet uses k p q i (SemPost s) (SemWait r)
post_and_wait uses k p q i s r v n all named at mine theirs answered unnoticed = by (v == 0) refl
  where
    by : (b : Bool) → (v == 0) ≡ b → AreMet uses k p q i (SemPost s) (SemWait r)
    by true e =
        let none : v ≡ 0 = grind arith in
        absurd (answered (wait_none r i (process_at k.processes q) n k q theirs refl (at ∙ ap (SemPlace n) none)))
    by false e =
        let less : nat_lt v sem_value_max ≡ true = (and_parts (goes_on_with (SemPlace n v) (SemPost s)) _ unnoticed).0 in
        let back = value_back v e in
        let small = not_greatest v sem_value_max less in
        record {
          object = SemPlace n (v - 1);
          exchanged = on_one k p q i (SemPost s) (SemWait r) (SemPlace n v) (SemPlace n (v + 1)) (SemPlace n (v - 1)) (SemPlace n v) _ _ all at refl named named
              (post s i v _ n mine named (below_is_other v sem_value_max less))
              (subst (λ u. Makes (SemWait r) (process_at k.processes q) i (SemPlace n (v + 1)) (Done (Plain 0)) (SemPlace n u)) back.0 (wait r i (v + 1) _ n theirs named (more_than_none v)))
              (wait r i v _ n theirs named e)
              (subst (λ u. Makes (SemPost s) (process_at k.processes p) i (SemPlace n (v - 1)) (Done (Plain 0)) (SemPlace n u)) back.1 (post s i (v - 1) _ n mine named small.0));
          unnoticed = unnoticed_on uses p (SemPlace n v) (SemPlace n (v - 1)) (SemPost s) small.1 refl (post_noticed n v (v - 1) s) unnoticed;
          name = sym (ap object_name at);
        }

-- a receive and a send on one queue
module _ (uses : List ProcessUse) (k : KernelState) (p q i : ℕ) (n : Option (List ℕ)) (s : QueueState) (all : are_named k.places ≡ true) (named : is_named (Mq n s) ≡ true) (at : place_at k.places i ≡ Mq n s) where
  -- the states of the queue that both orders come to
  of_swapped : (c d : Call) (a b a' b' : Answer) (x y z z' : QueueState) → a' ≡ a → b' ≡ b → z' ≡ z → Makes c (process_at k.processes p) i (Mq n s) a (Mq n x) → Makes d (process_at k.processes q) i (Mq n x) b' (Mq n z)
      → Makes d (process_at k.processes q) i (Mq n s) b (Mq n y) → Makes c (process_at k.processes p) i (Mq n y) a' (Mq n z') → AreExchanged k p q i c d (Mq n y)
  of_swapped c d a b a' b' x y z z' same_a same_b same_z mine theirs_then theirs mine_then = on_one k p q i c d (Mq n s) (Mq n x) (Mq n y) (Mq n z) a b all at refl named named mine
      (subst (λ m. Makes d (process_at k.processes q) i (Mq n x) m (Mq n z)) same_b theirs_then) theirs
      (subst (λ m. Makes c (process_at k.processes p) i (Mq n y) m (Mq n z)) same_a (subst (λ w. Makes c (process_at k.processes p) i (Mq n y) a' (Mq n w)) same_z mine_then))

  receive_noticed : (w : QueueState) (m : Message) (rest more : List Message) (d len : ℕ) → s.messages ≡ m ∷ rest → w.messages ≡ m ∷ more → (u : Use)
      → is_noticed (Mq n s) (MqReceive d len) u ≡ false → is_noticed (Mq n w) (MqReceive d len) u ≡ false
  receive_noticed w m rest more d len e f (Send prio) none = ap (goes_first prio) f ∙ sym (ap (goes_first prio) e) ∙ none
  receive_noticed w m rest more d len e f other none = absurd (cc)

  pub receive_and_send : (d e len prio : ℕ) (words : List ℕ) → place_used (process_at k.processes p) (MqReceive d len) ≡ Some i → place_used (process_at k.processes q) (MqSend e words prio) ≡ Some i
      → ((answer k q (MqSend e words prio)).0 ≡ Waits → ⊥) → is_nonblock (held_by e (process_at k.processes q)) ≡ false → goes_first prio s.messages ≡ false
      → is_unnoticed uses p (Mq n s) (MqReceive d len) ≡ true → AreMet uses k p q i (MqReceive d len) (MqSend e words prio)
  receive_and_send d e len prio words mine theirs answered waits later unnoticed = by s.messages refl
    where
      h : (h : Descriptor) × (held_by d (process_at k.processes p) ≡ Some h) × (h.place ≡ i)
      h = held_there (process_at k.processes p) d i mine

      g : (g : Descriptor) × (held_by e (process_at k.processes q) ≡ Some g) × (g.place ≡ i)
      g = held_there (process_at k.processes q) e i theirs

      blocks : g.0.nonblock ≡ false
      blocks = sym (ap is_nonblock g.1) ∙ waits

      sends : (w : QueueState) → Makes (MqSend e words prio) (process_at k.processes q) i (Mq n w) (give g.0 prio words w).0 (Mq n (give g.0 prio words w).1)
      sends w = send e prio i words (process_at k.processes q) n w g.0 g.1 g.2 named

      receives : (w : QueueState) → Makes (MqReceive d len) (process_at k.processes p) i (Mq n w) (take h.0 len w).0 (Mq n (take h.0 len w).1)
      receives w = receive d len i (process_at k.processes p) n w h.0 h.1 h.2 named

      done : (give g.0 prio words s).0 ≡ Waits → ⊥
      done e = answered (ap (λ (x : Outcome). x.0) (sends s k q all refl at) ∙ e)

      by : (ms : List Message) → s.messages ≡ ms → AreMet uses k p q i (MqReceive d len) (MqSend e words prio)
      by [] f = let some : not (are_none s.messages) ≡ true = (and_parts (goes_on_with (Mq n s) (MqReceive d len)) _ unnoticed).0 in let none : not (are_none s.messages) ≡ false = ap (λ ms. not (are_none ms)) f in absurd (cc)
      by (m ∷ rest) f =
          let behind : nat_lt m.priority prio ≡ false = sym (ap (goes_first prio) f) ∙ later in
          let swap = swapped_queue h.0 g.0 len prio words s m rest f behind
          (room_of (g.0.access == 0) (nat_le mq_prio_max prio) (nat_lt s.message_size (length words)) (is_full s) g.0 prio words s blocks done) in
          let first = first_stays (g.0.access == 0) (nat_le mq_prio_max prio) (nat_lt s.message_size (length words)) (is_full s) g.0 prio words s m rest f behind in
          let y = (give g.0 prio words s).1 in
          record {
            object = Mq n y;
            exchanged = of_swapped (MqReceive d len) (MqSend e words prio) _ _ _ _ (take h.0 len s).1 y _ _ swap.taken_too swap.given (sym swap.queue) (receives s) (sends (take h.0 len s).1) (sends s) (receives y);
            unnoticed = unnoticed_on uses p (Mq n s) (Mq n y) (MqReceive d len) (ap (λ ms. not (are_none ms)) first.1) refl (receive_noticed y m rest first.0 d len f first.1) unnoticed;
            name = sym (ap object_name at);
          }

  send_noticed : (w : QueueState) (d prio : ℕ) (words : List ℕ) → (goes_last prio s.messages ≡ true → goes_last prio w.messages ≡ true) → (u : Use)
      → is_noticed (Mq n s) (MqSend d words prio) u ≡ false → is_noticed (Mq n w) (MqSend d words prio) u ≡ false
  send_noticed w d prio words last Receive none = ap not (last (true_of (goes_last prio s.messages) none))
    where
      true_of : (b : Bool) → not b ≡ false → b ≡ true
      true_of true e = refl
      true_of false e = absurd (cc)
  send_noticed w d prio words last other none = absurd (cc)

  last_is_behind : (prio : ℕ) (m : Message) (rest ms : List Message) → ms ≡ m ∷ rest → goes_last prio ms ≡ true → nat_lt m.priority prio ≡ false
  last_is_behind prio m rest ms e last =
      let first = (and_parts (nat_le prio m.priority) (goes_last prio rest) (sym (ap (goes_last prio) e) ∙ last)).0 in
      grind arith

  pub send_and_receive : (d e len prio : ℕ) (words : List ℕ) → place_used (process_at k.processes p) (MqSend d words prio) ≡ Some i → place_used (process_at k.processes q) (MqReceive e len) ≡ Some i
      → ((answer k q (MqReceive e len)).0 ≡ Waits → ⊥) → is_nonblock (held_by e (process_at k.processes q)) ≡ false → goes_last prio s.messages ≡ true
      → is_unnoticed uses p (Mq n s) (MqSend d words prio) ≡ true → AreMet uses k p q i (MqSend d words prio) (MqReceive e len)
  send_and_receive d e len prio words mine theirs answered waits last unnoticed =
      let y = (take h.0 len s).1 in
      let stay = last_stays (h.0.access == 1) (nat_lt len s.message_size) h.0 s prio in
      record {
        object = Mq n y;
        exchanged = of_swapped (MqSend d words prio) (MqReceive e len) _ _ _ _ (give g.0 prio words s).1 y _ _ swap.given swap.taken_too swap.queue (sends s) (receives (give g.0 prio words s).1) (receives s) (sends y);
        unnoticed = unnoticed_on uses p (Mq n s) (Mq n y) (MqSend d words prio) (stay.1 room) refl (send_noticed y d prio words stay.0) unnoticed;
        name = sym (ap object_name at);
      }
    where
      g : (g : Descriptor) × (held_by d (process_at k.processes p) ≡ Some g) × (g.place ≡ i)
      g = held_there (process_at k.processes p) d i mine

      h : (h : Descriptor) × (held_by e (process_at k.processes q) ≡ Some h) × (h.place ≡ i)
      h = held_there (process_at k.processes q) e i theirs

      room : nat_lt (length s.messages) s.max_messages ≡ true
      room = (and_parts (goes_on_with (Mq n s) (MqSend d words prio)) _ unnoticed).0

      sends : (w : QueueState) → Makes (MqSend d words prio) (process_at k.processes p) i (Mq n w) (give g.0 prio words w).0 (Mq n (give g.0 prio words w).1)
      sends w = send d prio i words (process_at k.processes p) n w g.0 g.1 g.2 named

      receives : (w : QueueState) → Makes (MqReceive e len) (process_at k.processes q) i (Mq n w) (take h.0 len w).0 (Mq n (take h.0 len w).1)
      receives w = receive e len i (process_at k.processes q) n w h.0 h.1 h.2 named

      done : (take h.0 len s).0 ≡ Waits → ⊥
      done w = answered (ap (λ (x : Outcome). x.0) (receives s k q all refl at) ∙ w)

      by : (ms : List Message) → s.messages ≡ ms → AreSwapped h.0 g.0 len prio words s
      by [] f = swapped_none h.0 g.0 len prio words s f (sym (ap is_nonblock h.1) ∙ waits) done
      by (m ∷ rest) f = swapped_queue h.0 g.0 len prio words s m rest f (last_is_behind prio m rest s.messages f last) (λ a b c. room_below (length s.messages) s.max_messages room)

      swap : AreSwapped h.0 g.0 len prio words s
      swap = by s.messages refl
