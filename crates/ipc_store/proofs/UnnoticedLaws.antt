-- The laws of calls that no other process can notice.
use Rattle.std.proofs.Common.{◌≡◌, ℕ, ◌-◌, Bool, true, false, cond, not, nat_le, ◌||◌, ◌&&◌, List, [], ◌∷◌, zero, suc, set, Option, Some, None, is_some, unwrap_or, slice_get, option_and_then, refl, sym, ap, subst, ◌∙◌, inl, inr, arith, rules}
use Rattle.std.specs.List.{list_all}
use Rattle.std.specs.Option.{option_map}
use Rattle.std.proofs.lemmas.Bool.{and_parts, or_right, or_left}
use Rattle.std.proofs.lemmas.Bool.Decides.{eqb_tells}
use Rattle.ipc_objects.specs.Limits.{sem_value_max}
use Rattle.ipc_objects.specs.Queue.{QueueState}
use Rattle.ipc_kernel.specs.declared.place.Place.{Place}
use Rattle.ipc_kernel.specs.declared.place.Place.TheVariants.{Empty, Mq, Sem as SemPlace}
use Rattle.ipc_kernel.specs.declared.process.OpenTables.{OpenTables}
use Rattle.ipc_kernel.specs.declared.process.Descriptor.{Descriptor}
use Rattle.ipc_kernel.specs.declared.call.Call.{Call}
use Rattle.ipc_kernel.specs.declared.call.Call.TheVariants.{MqOpen, MqClose, MqUnlink, MqSend, MqReceive, MqGetattr, MqSetattr, SemOpen, SemClose, SemUnlink, SemWait, SemTrywait, SemPost, SemGetvalue, Exit}
use Rattle.ipc_kernel.specs.declared.call.Handle.{Handle}
use Rattle.ipc_kernel.specs.declared.call.Handle.TheVariants.{Mqd, Slot as Sem}
use Rattle.ipc_kernel.specs.declared.call.Answer.TheVariants.{Done, Wait as Waits}
use Rattle.ipc_kernel.specs.Processes.{process_at}
use Rattle.ipc_kernel.specs.Places.{place_at, is_empty, has_name, queue_name, semaphore_name, queue_named, semaphore_named}
use Rattle.ipc_kernel.specs.Kernel.{KernelState}
use Rattle.ipc_kernel.specs.Outcomes.{Outcome}
use Rattle.ipc_kernel.specs.Answer.{answer, may_wait}
use Rattle.ipc_kernel.specs.Alike.{IsRenaming, IsAlike, renamed_process, renamed_descriptor, renamed_slot}
use Rattle.ipc_kernel.specs.Operands.{are_named, handle_of, place_of}
use Rattle.ipc_kernel.specs.OwnCalls.{is_own, is_unlink}
use Rattle.ipc_kernel.proofs.LawfulAnswers.{answer_may_wait}
use Rattle.ipc_store.specs.declared.uses.Use.{Use}
use Rattle.ipc_store.specs.declared.uses.Use.TheVariants.{Wait, Look, Post, Send, SendAtOnce, Receive, ReceiveAtOnce, Attributes}
use Rattle.ipc_store.specs.declared.uses.ProcessUse.{ProcessUse}
use Rattle.ipc_store.specs.Uses.{object_name, is_nonblock, use_of, place_used, is_low, are_low, goes_first, goes_last, goes_on_with, is_noticed, is_unnoticed, is_unnoticed_at, is_own_by, IsListed, IsWithin, Commute, UnnoticedCallsCommute, IsHarmless, UnnoticedCallsHarmless, HaveUsesAlike, UsesAlike}
use Rattle.ipc_store.proofs.Renamings.{nobody, held_by, held-renamed, slot_held-renamed, process_at-renamed}
use Rattle.ipc_store.proofs.SettledTables.{all_at}
use Rattle.ipc_store.proofs.NamedPlaces.{is_named, all_by, names_kept}
use Rattle.ipc_store.proofs.CommutingCalls.{own_calls_commute, own_alike, of_own, process_at-set_other, there}
use Rattle.ipc_store.proofs.UsedObjects.{with_object}
use Rattle.ipc_store.proofs.UnnoticedCalls.{other_at, IsActing, acting, AreMet, not_noticed, met_own, met_open, met_handle, post_and_post, post_and_wait, receive_and_send, send_and_receive}

-- a call on an open object makes some use of it
some_use : (t : OpenTables) (d : Call) (i : ℕ) → place_used t d ≡ Some i → (u : Use) × (use_of t d ≡ Some u)
some_use t (MqSend e words prio) i at = (_, refl)
some_use t (MqReceive e len) i at = (_, refl)
some_use t (MqGetattr e) i at = (_, refl)
some_use t (MqSetattr e flags) i at = (_, refl)
some_use t (SemWait s) i at = (_, refl)
some_use t (SemTrywait s) i at = (_, refl)
some_use t (SemPost s) i at = (_, refl)
some_use t (SemGetvalue s) i at = (_, refl)
some_use t other i at = absurd (cc)

either : (o : Place) (c : Call) (b : Bool) (x y : Use) → is_noticed o c x ≡ true → is_noticed o c y ≡ true → is_noticed o c (cond b x y) ≡ false → ⊥
either o c true x y e f h = absurd (cc)
either o c false x y e f h = absurd (cc)

module _ (uses : List ProcessUse) (k : KernelState) (p q i : ℕ) (all : are_named k.places ≡ true) where
  post_met : (s v : ℕ) (n : Option (List ℕ)) (d : Call) → is_named (SemPlace n v) ≡ true → place_at k.places i ≡ SemPlace n v → place_used (process_at k.processes p) (SemPost s) ≡ Some i
      → place_used (process_at k.processes q) d ≡ Some i → nat_le v (sem_value_max - 2) ≡ true → ((answer k q d).0 ≡ Waits → ⊥) → is_unnoticed uses p (SemPlace n v) (SemPost s) ≡ true
      → ((u : Use) → use_of (process_at k.processes q) d ≡ Some u → is_noticed (SemPlace n v) (SemPost s) u ≡ false) → AreMet uses k p q i (SemPost s) d
  post_met s v n (SemPost r) named at mine theirs low answered unnoticed sees = post_and_post uses k p q i s r v n all named at mine theirs low unnoticed
  post_met s v n (SemWait r) named at mine theirs low answered unnoticed sees = post_and_wait uses k p q i s r v n all named at mine theirs answered unnoticed
  post_met s v n (MqSend e words prio) named at mine theirs low answered unnoticed sees = absurd (either (SemPlace n v) (SemPost s) _ SendAtOnce (Send prio) refl refl (sees _ refl))
  post_met s v n (MqReceive e len) named at mine theirs low answered unnoticed sees = absurd (either (SemPlace n v) (SemPost s) _ ReceiveAtOnce Receive refl refl (sees _ refl))
  post_met s v n (MqGetattr e) named at mine theirs low answered unnoticed sees = let no = sees _ refl in absurd (cc)
  post_met s v n (MqSetattr e flags) named at mine theirs low answered unnoticed sees = let no = sees _ refl in absurd (cc)
  post_met s v n (SemTrywait r) named at mine theirs low answered unnoticed sees = let no = sees _ refl in absurd (cc)
  post_met s v n (SemGetvalue r) named at mine theirs low answered unnoticed sees = let no = sees _ refl in absurd (cc)
  post_met s v n other named at mine theirs low answered unnoticed sees = absurd (cc)

  receive_met : (a len : ℕ) (n : Option (List ℕ)) (s : QueueState) (d : Call) → is_named (Mq n s) ≡ true → place_at k.places i ≡ Mq n s → place_used (process_at k.processes p) (MqReceive a len) ≡ Some i
      → place_used (process_at k.processes q) d ≡ Some i → ((answer k q d).0 ≡ Waits → ⊥) → is_unnoticed uses p (Mq n s) (MqReceive a len) ≡ true
      → ((u : Use) → use_of (process_at k.processes q) d ≡ Some u → is_noticed (Mq n s) (MqReceive a len) u ≡ false) → AreMet uses k p q i (MqReceive a len) d
  receive_met a len n s (MqSend e words prio) named at mine theirs answered unnoticed sees = by (is_nonblock (held_by e (process_at k.processes q))) refl
    where
      by : (b : Bool) → is_nonblock (held_by e (process_at k.processes q)) ≡ b → AreMet uses k p q i (MqReceive a len) (MqSend e words prio)
      by true f = let no = sees SendAtOnce (ap (λ b. Some (cond b SendAtOnce (Send prio))) f) in absurd (cc)
      by false f = receive_and_send uses k p q i n s all named at a e len prio words mine theirs answered f (sees (Send prio) (ap (λ b. Some (cond b SendAtOnce (Send prio))) f)) unnoticed
  receive_met a len n s (MqReceive e more) named at mine theirs answered unnoticed sees = absurd (either (Mq n s) (MqReceive a len) _ ReceiveAtOnce Receive refl refl (sees _ refl))
  receive_met a len n s (MqGetattr e) named at mine theirs answered unnoticed sees = let no = sees _ refl in absurd (cc)
  receive_met a len n s (MqSetattr e flags) named at mine theirs answered unnoticed sees = let no = sees _ refl in absurd (cc)
  receive_met a len n s (SemWait r) named at mine theirs answered unnoticed sees = let no = sees _ refl in absurd (cc)
  receive_met a len n s (SemTrywait r) named at mine theirs answered unnoticed sees = let no = sees _ refl in absurd (cc)
  receive_met a len n s (SemPost r) named at mine theirs answered unnoticed sees = let no = sees _ refl in absurd (cc)
  receive_met a len n s (SemGetvalue r) named at mine theirs answered unnoticed sees = let no = sees _ refl in absurd (cc)
  receive_met a len n s other named at mine theirs answered unnoticed sees = absurd (cc)

  true_of : (b : Bool) → not b ≡ false → b ≡ true
  true_of true e = refl
  true_of false e = absurd (cc)

  send_met : (a prio : ℕ) (words : List ℕ) (n : Option (List ℕ)) (s : QueueState) (d : Call) → is_named (Mq n s) ≡ true → place_at k.places i ≡ Mq n s → place_used (process_at k.processes p) (MqSend a words prio) ≡ Some i
      → place_used (process_at k.processes q) d ≡ Some i → ((answer k q d).0 ≡ Waits → ⊥) → is_unnoticed uses p (Mq n s) (MqSend a words prio) ≡ true
      → ((u : Use) → use_of (process_at k.processes q) d ≡ Some u → is_noticed (Mq n s) (MqSend a words prio) u ≡ false) → AreMet uses k p q i (MqSend a words prio) d
  send_met a prio words n s (MqReceive e len) named at mine theirs answered unnoticed sees = by (is_nonblock (held_by e (process_at k.processes q))) refl
    where
      by : (b : Bool) → is_nonblock (held_by e (process_at k.processes q)) ≡ b → AreMet uses k p q i (MqSend a words prio) (MqReceive e len)
      by true f = let no = sees ReceiveAtOnce (ap (λ b. Some (cond b ReceiveAtOnce Receive)) f) in absurd (cc)
      by false f =
          send_and_receive uses k p q i n s all named at a e len prio words mine theirs answered f (true_of (goes_last prio s.messages) (sees Receive (ap (λ b. Some (cond b ReceiveAtOnce Receive)) f))) unnoticed
  send_met a prio words n s (MqSend e more high) named at mine theirs answered unnoticed sees = absurd (either (Mq n s) (MqSend a words prio) _ SendAtOnce (Send high) refl refl (sees _ refl))
  send_met a prio words n s (MqGetattr e) named at mine theirs answered unnoticed sees = let no = sees _ refl in absurd (cc)
  send_met a prio words n s (MqSetattr e flags) named at mine theirs answered unnoticed sees = let no = sees _ refl in absurd (cc)
  send_met a prio words n s (SemWait r) named at mine theirs answered unnoticed sees = let no = sees _ refl in absurd (cc)
  send_met a prio words n s (SemTrywait r) named at mine theirs answered unnoticed sees = let no = sees _ refl in absurd (cc)
  send_met a prio words n s (SemPost r) named at mine theirs answered unnoticed sees = let no = sees _ refl in absurd (cc)
  send_met a prio words n s (SemGetvalue r) named at mine theirs answered unnoticed sees = let no = sees _ refl in absurd (cc)
  send_met a prio words n s other named at mine theirs answered unnoticed sees = absurd (cc)

  -- a wait, a try and a look are noticed by each use
  wait_noticed : (n : Option (List ℕ)) (v s : ℕ) (u : Use) → is_noticed (SemPlace n v) (SemWait s) u ≡ true
  wait_noticed n v s Wait = refl
  wait_noticed n v s other = refl

  try_noticed : (n : Option (List ℕ)) (v s : ℕ) (u : Use) → is_noticed (SemPlace n v) (SemTrywait s) u ≡ true
  try_noticed n v s Wait = refl
  try_noticed n v s other = refl

  look_noticed : (n : Option (List ℕ)) (v s : ℕ) (u : Use) → is_noticed (SemPlace n v) (SemGetvalue s) u ≡ true
  look_noticed n v s Wait = refl
  look_noticed n v s other = refl

  -- two calls on one object
  on_it : (c d : Call) (o : Place) → is_named o ≡ true → place_at k.places i ≡ o → place_used (process_at k.processes p) c ≡ Some i → place_used (process_at k.processes q) d ≡ Some i → is_low o ≡ true
      → ((answer k q d).0 ≡ Waits → ⊥) → goes_on_with o c ≡ true → is_unnoticed uses p o c ≡ true → ((u : Use) → use_of (process_at k.processes q) d ≡ Some u → is_noticed o c u ≡ false) → AreMet uses k p q i c d
  on_it (SemPost s) d (SemPlace n v) named at mine theirs low answered goes unnoticed sees = post_met s v n d named at mine theirs low answered unnoticed sees
  on_it (SemWait s) d (SemPlace n v) named at mine theirs low answered goes unnoticed sees =
      let u = some_use (process_at k.processes q) d i theirs in let no = sees u.0 u.1 in let yes = wait_noticed n v s u.0 in absurd (cc)
  on_it (SemTrywait s) d (SemPlace n v) named at mine theirs low answered goes unnoticed sees =
      let u = some_use (process_at k.processes q) d i theirs in let no = sees u.0 u.1 in let yes = try_noticed n v s u.0 in absurd (cc)
  on_it (SemGetvalue s) d (SemPlace n v) named at mine theirs low answered goes unnoticed sees =
      let u = some_use (process_at k.processes q) d i theirs in let no = sees u.0 u.1 in let yes = look_noticed n v s u.0 in absurd (cc)
  on_it (MqReceive a len) d (Mq n s) named at mine theirs low answered goes unnoticed sees = receive_met a len n s d named at mine theirs answered unnoticed sees
  on_it (MqSend a words prio) d (Mq n s) named at mine theirs low answered goes unnoticed sees = send_met a prio words n s d named at mine theirs answered unnoticed sees
  on_it c d Empty named at mine theirs low answered goes unnoticed sees = absurd (cc)
  on_it c d (Mq n s) named at mine theirs low answered goes unnoticed sees = absurd (cc)
  on_it c d (SemPlace n v) named at mine theirs low answered goes unnoticed sees = absurd (cc)

-- the name of an object that has one
name_there : (o : Place) → is_named o ≡ true → is_empty o ≡ false → (n : List ℕ) × (object_name o ≡ Some n)
name_there Empty named full = absurd (cc)
name_there (Mq n s) named full = there n named
name_there (SemPlace n v) named full = there n named

-- an unnoticed call, and whatever another process does within the uses
met : (uses : List ProcessUse) (k : KernelState) (p q i : ℕ) (c d : Call) → (p ≡ q → ⊥) → are_named k.places ≡ true → are_low k.places ≡ true → place_used (process_at k.processes p) c ≡ Some i
    → is_unnoticed uses p (place_at k.places i) c ≡ true → IsWithin uses k q d → ((answer k q d).0 ≡ Waits → ⊥) → AreMet uses k p q i c d
met uses k p q i c d other all low mine unnoticed within answered = by d within answered
  where
    o : Place
    o = place_at k.places i

    named : is_named o ≡ true
    named = all_at is_named k.places i Empty refl all

    goes : goes_on_with o c ≡ true
    goes = (and_parts (goes_on_with o c) _ unnoticed).0

    acts : IsActing c (process_at k.processes p) i o
    acts = acting c (process_at k.processes p) i o mine named goes

    name : (n : List ℕ) × (object_name o ≡ Some n)
    name = name_there o named acts.full

    at_it : (d : Call) → IsWithin uses k q d → ((answer k q d).0 ≡ Waits → ⊥) → place_used (process_at k.processes q) d ≡ Some i → AreMet uses k p q i c d
    at_it d within answered theirs = on_it uses k p q i all c d o named refl mine theirs (all_at is_low k.places i Empty refl low) answered goes unnoticed
        (λ u e. not_noticed uses p q o c name.0 u other unnoticed name.1 (within.listed i name.0 u theirs name.1 e))

    by : (d : Call) → IsWithin uses k q d → ((answer k q d).0 ≡ Waits → ⊥) → AreMet uses k p q i c d
    by Exit within answered = met_own uses k p q i c Exit o other all refl acts unnoticed refl
    by (MqClose e) within answered = met_own uses k p q i c (MqClose e) o other all refl acts unnoticed refl
    by (SemClose s) within answered = met_own uses k p q i c (SemClose s) o other all refl acts unnoticed refl
    by (MqUnlink n) within answered = let no = within.keeps in absurd (cc)
    by (SemUnlink n) within answered = let no = within.keeps in absurd (cc)
    by (MqOpen n flags attr) within answered =
        met_open uses k p q i c (MqOpen n flags attr) o other all refl acts unnoticed queue_name n refl (λ j h m e at. absurd (cc)) (λ j l f. f) (λ j e. ap is_some e)
    by (SemOpen n flags value) within answered =
        met_open uses k p q i c (SemOpen n flags value) o other all refl acts unnoticed semaphore_name n refl (λ j h m e at. absurd (cc)) (λ j l f. f) (λ j e. ap is_some e)
    by d within answered = met_handle uses k p q i c d o other all refl acts unnoticed refl refl (λ j. tt) (at_it d within answered)

-- where a call is unnoticed
unnoticed_there : (uses : List ProcessUse) (k : KernelState) (p : ℕ) (c : Call) → is_own k.places c ≡ false → is_own_by uses k p c ≡ true
    → (i : ℕ) × (place_used (process_at k.processes p) c ≡ Some i) × (is_unnoticed uses p (place_at k.places i) c ≡ true)
unnoticed_there uses k p c none own = by (place_used (process_at k.processes p) c) refl (sym (ap (λ b. b || is_unnoticed_at uses p k.places c (place_used (process_at k.processes p) c)) none) ∙ own)
  where
    by : (x : Option ℕ) → place_used (process_at k.processes p) c ≡ x → is_unnoticed_at uses p k.places c (place_used (process_at k.processes p) c) ≡ true
        → (i : ℕ) × (place_used (process_at k.processes p) c ≡ Some i) × (is_unnoticed uses p (place_at k.places i) c ≡ true)
    by None e h = let no : is_unnoticed_at uses p k.places c None ≡ true = subst (λ x. is_unnoticed_at uses p k.places c x ≡ true) e h in absurd (cc)
    by (Some i) e h = (i, e, subst (λ x. is_unnoticed_at uses p k.places c x ≡ true) e h)

-- a call of its tables alone works on no open object
own_without : (ps : List Place) (t : OpenTables) (c : Call) → is_own ps c ≡ true → (place_used t c ≡ None) × (is_unlink c ≡ false) × (may_wait c ≡ false)
own_without ps t Exit own = (refl, refl, refl)
own_without ps t (MqClose d) own = (refl, refl, refl)
own_without ps t (SemClose s) own = (refl, refl, refl)
own_without ps t (MqOpen name flags attr) own = (refl, refl, refl)
own_without ps t (SemOpen name flags value) own = (refl, refl, refl)
own_without ps t other own = absurd (cc)

pub unnoticed_calls_commute : UnnoticedCallsCommute
unnoticed_calls_commute uses k p q c d other all low own within answered = by (is_own k.places c) refl
  where
    after_d : KernelState
    after_d = (answer k q d).1

    by : (b : Bool) → is_own k.places c ≡ b → Commute uses k p q c d
    by true e =
        let h = own_calls_commute k p q c d other all e within.keeps in
        let none = own_without after_d.places (process_at after_d.processes p) c h.own in
        record {
          second = h.second;
          first = h.first;
          kernel = h.kernel;
          own = or_left (is_own after_d.places c) _ h.own;
          within = λ w. record { keeps = w.keeps; listed = λ i n u at name made. let no = sym none.0 ∙ at in absurd (cc) };
        }
    by false e =
        let mine = unnoticed_there uses k p c e own in
        let m = met uses k p q mine.0 c d other all low mine.1 mine.2 within answered in
        let x = m.exchanged in
        let used = ap (λ t. place_used t c) x.tables in
        record {
          second = x.second;
          first = x.first;
          kernel = x.kernel;
          own = or_right (is_own after_d.places c) _
              (ap (is_unnoticed_at uses p after_d.places c) (used ∙ mine.1) ∙ ap (λ w. is_unnoticed uses p w c) x.object ∙ m.unnoticed);
          within = λ w. record {
            keeps = w.keeps;
            listed = λ j n u at name made.
                let here : Some mine.0 ≡ Some j = sym mine.1 ∙ sym used ∙ at in
                let same : mine.0 ≡ j = cc in
                w.listed j n u (sym used ∙ at)
                (ap (λ a. object_name (place_at k.places a)) (sym same) ∙ sym m.name ∙ sym (ap object_name x.object) ∙ ap (λ a. object_name (place_at after_d.places a)) same ∙ name)
                (ap (λ t. use_of t c) (sym x.tables) ∙ made);
          };
        }

-- what is written is low where what was there must have been
all_unset : {A : Type 0} (test : A → Bool) (xs : List A) (i : ℕ) (y d : A) → (test y ≡ true → test (unwrap_or (slice_get xs i) d) ≡ true) → list_all test (set xs i y) ≡ true → list_all test xs ≡ true
all_unset test [] i y d h e = refl
all_unset test (x ∷ xs) zero y d h e = let both = and_parts (test y) (list_all test xs) e in ap (λ b. b && list_all test xs) (h both.0) ∙ both.1
all_unset test (x ∷ xs) (suc i) y d h e = let both = and_parts (test x) (list_all test (set xs i y)) e in ap (λ b. b && list_all test xs) both.0 ∙ all_unset test xs i y d h both.1

-- what is within the uses after a call of another process, which leaves each name, was so before it
within_before : (uses : List ProcessUse) (k j : KernelState) (q : ℕ) (d : Call) → process_at j.processes q ≡ process_at k.processes q → ((i : ℕ) → object_name (place_at j.places i) ≡ object_name (place_at k.places i))
    → IsWithin uses j q d → IsWithin uses k q d
within_before uses k j q d tables names w = record {
  keeps = w.keeps;
  listed = λ i n u at name made. w.listed i n u (ap (λ t. place_used t d) tables ∙ at) (names i ∙ name) (ap (λ t. use_of t d) tables ∙ made);
}

pub unnoticed_calls_harmless : UnnoticedCallsHarmless
unnoticed_calls_harmless uses k p c all own = by (is_own k.places c) refl
  where
    by : (b : Bool) → is_own k.places c ≡ b → IsHarmless uses k p c
    by true e =
        let mine = of_own k.places (process_at k.processes p) c e in
        let is = mine.same k p (names_kept k.places all) refl in
        let none = own_without k.places (process_at k.processes p) c e in
        record {
          answered = λ w. let waits = answer_may_wait k p c w in let never = none.2 in absurd (cc);
          keeps = none.1;
          within = λ q d other. within_before uses k (answer k p c).1 q d (ap (λ (o : Outcome). process_at o.1.processes q) is ∙ process_at-set_other k.processes p q mine.tables other)
              (λ i. ap (λ (o : Outcome). object_name (place_at o.1.places i)) is);
          low = λ h. sym (ap (λ (o : Outcome). are_low o.1.places) is) ∙ h;
        }
    by false e =
        let mine = unnoticed_there uses k p c e own in
        let i = mine.0 in
        let o = place_at k.places i in
        let acts = acting c (process_at k.processes p) i o mine.1 (all_at is_named k.places i Empty refl all) (and_parts (goes_on_with o c) _ mine.2).0 in
        let is = acts.makes k p all refl refl in
        record {
          answered = λ w. acts.answered (sym (ap (λ (x : Outcome). x.0) is) ∙ w);
          keeps = acts.keeps;
          within = λ q d other. within_before uses k (answer k p c).1 q d (ap (λ (x : Outcome). process_at x.1.processes q) is)
              (λ j. ap (λ (x : Outcome). object_name (place_at x.1.places j)) is ∙ named_still k.places i j acts.object acts.name);
          low = λ h. all_unset is_low k.places i acts.object Empty acts.low (sym (ap (λ (x : Outcome). are_low x.1.places) is) ∙ h);
        }
      where
        named_still : (ps : List Place) (i j : ℕ) (x : Place) → object_name x ≡ object_name (place_at ps i) → object_name (place_at (set ps i x) j) ≡ object_name (place_at ps j)
        named_still [] i j x e = refl
        named_still (y ∷ ps) zero zero x e = e
        named_still (y ∷ ps) zero (suc j) x e = refl
        named_still (y ∷ ps) (suc i) zero x e = refl
        named_still (y ∷ ps) (suc i) (suc j) x e = named_still ps i j x e

-- tables whose places are renamed
place_of-renamed : (f : ℕ → ℕ) (t : OpenTables) (h : Handle) → place_of (renamed_process f t) h ≡ option_map f (place_of t h)
place_of-renamed f t (Mqd d) = ap (option_map (λ (x : Descriptor). x.place)) (held-renamed f t d) ∙ twice (held_by d t)
  where
    twice : (x : Option Descriptor) → option_map (λ (x : Descriptor). x.place) (option_map (renamed_descriptor f) x) ≡ option_map f (option_map (λ (x : Descriptor). x.place) x)
    twice None = refl
    twice (Some x) = refl
place_of-renamed f t (Sem s) = ap (option_map (λ x. x.place)) (slot_held-renamed f t s) ∙ twice (unwrap_or (slice_get t.slots s) None)
  where
    twice : (x : Option _) → option_map (λ x. x.place) (option_map (renamed_slot f) x) ≡ option_map f (option_map (λ x. x.place) x)
    twice None = refl
    twice (Some x) = refl

used-renamed : (f : ℕ → ℕ) (t : OpenTables) (c : Call) → place_used (renamed_process f t) c ≡ option_map f (place_used t c)
used-renamed f t c = by (handle_of c)
  where
    by : (x : Option Handle) → option_and_then (place_of (renamed_process f t)) x ≡ option_map f (option_and_then (place_of t) x)
    by None = refl
    by (Some h) = place_of-renamed f t h

nonblock-renamed : (f : ℕ → ℕ) (t : OpenTables) (d : ℕ) → is_nonblock (held_by d (renamed_process f t)) ≡ is_nonblock (held_by d t)
nonblock-renamed f t d = ap is_nonblock (held-renamed f t d) ∙ by (held_by d t)
  where
    by : (x : Option Descriptor) → is_nonblock (option_map (renamed_descriptor f) x) ≡ is_nonblock x
    by None = refl
    by (Some x) = refl

use-renamed : (f : ℕ → ℕ) (t : OpenTables) (c : Call) → use_of (renamed_process f t) c ≡ use_of t c
use-renamed f t (MqSend d words prio) = ap (λ b. Some (cond b SendAtOnce (Send prio))) (nonblock-renamed f t d)
use-renamed f t (MqReceive d len) = ap (λ b. Some (cond b ReceiveAtOnce Receive)) (nonblock-renamed f t d)
use-renamed f t other = refl

pub uses_alike : UsesAlike
uses_alike uses k j p c s a = record {
  own = simp ((own_alike k j c s a).0, unnoticed);
  within = λ w. record {
    keeps = w.keeps;
    listed = λ i n u at name made. w.listed (f i) n u (used ∙ ap (option_map f) at) (ap object_name (r.places i) ∙ name) (ap (λ t. use_of t c) tables ∙ use-renamed f (process_at k.processes p) c ∙ made);
  };
  low = λ h. all_by is_low k.places Empty (λ i. ap is_low (sym (r.places i)) ∙ all_at is_low j.places (f i) Empty refl h);
}
  where
    f : ℕ → ℕ
    f = a.0

    r : IsRenaming a.0 a.1 k j
    r = a.2

    tables : process_at j.processes p ≡ renamed_process f (process_at k.processes p)
    tables = ap (λ ps. process_at ps p) r.processes ∙ process_at-renamed f k.processes p

    used : place_used (process_at j.processes p) c ≡ option_map f (place_used (process_at k.processes p) c)
    used = ap (λ t. place_used t c) tables ∙ used-renamed f (process_at k.processes p) c

    unnoticed : is_unnoticed_at uses p j.places c (place_used (process_at j.processes p) c) ≡ is_unnoticed_at uses p k.places c (place_used (process_at k.processes p) c)
    unnoticed = ap (is_unnoticed_at uses p j.places c) used ∙ by (place_used (process_at k.processes p) c)
      where
        by : (x : Option ℕ) → is_unnoticed_at uses p j.places c (option_map f x) ≡ is_unnoticed_at uses p k.places c x
        by None = refl
        by (Some i) = ap (λ o. is_unnoticed uses p o c) (r.places i)
