-- Calls that remove no object: what they depend on, and what they change.
use Rattle.std.proofs.Common.{◌≡◌, ℕ, ◌<◌, ◌||◌, Bool, true, false, cond, List, length, set, length-set, get_or, get_or-set_other, get_or-set_same, Option, Some, None, option_and_then, position, unwrap_or, refl, sym, ap, subst, ◌∙◌, inl, inr, arith, rules}
use Rattle.std.specs.Option.{option_or}
use Rattle.std.proofs.lemmas.Bool.{cases_eq, or_right}
use Rattle.std.proofs.lemmas.Option.{cond_some, unwrap_or-slice_get}
use Rattle.ipc_kernel.specs.declared.place.Place.{Place}
use Rattle.ipc_kernel.specs.declared.place.Place.TheVariants.{Empty}
use Rattle.ipc_kernel.specs.declared.process.OpenTables.{OpenTables}
use Rattle.ipc_kernel.specs.declared.call.Call.{Call}
use Rattle.ipc_kernel.specs.declared.call.Call.TheVariants.{MqOpen, MqClose, MqUnlink, SemOpen, SemClose, SemUnlink, Exit}
use Rattle.ipc_kernel.specs.declared.call.Answer.{Answer}
use Rattle.ipc_kernel.specs.declared.call.Answer.TheVariants.{Done}
use Rattle.ipc_kernel.specs.declared.call.Reply.TheVariants.{Plain}
use Rattle.ipc_kernel.specs.declared.call.Handle.TheVariants.{Mqd, Slot as Sem}
use Rattle.ipc_kernel.specs.Processes.{process_at, process_refers, closed_process}
use Rattle.ipc_kernel.specs.Places.{place_at, is_empty, has_name, queue_name, semaphore_name, place_named, place_or_empty}
use Rattle.ipc_kernel.specs.Kernel.{KernelState, IsSettled}
use Rattle.ipc_kernel.specs.Outcomes.{Outcome}
use Rattle.ipc_kernel.specs.Answer.{answer}
use Rattle.ipc_kernel.specs.Operands.{place_of, if_named, are_named, operand_in, handle_of, with_operand, HasOperand, AnswersByOperand}
use Rattle.ipc_kernel.proofs.PlaceLemmas.{empty_of, first_empty_place}
use Rattle.ipc_kernel.proofs.KernelLemmas.{settled_by, settled_at}
use Rattle.ipc_store.proofs.Renamings.{nobody}
use Rattle.ipc_store.proofs.SettledTables.{all_at, any_set, get_set, place_kept}
use Rattle.ipc_store.proofs.NamedPlaces.{is_named, name_found}
use Rattle.ipc_store.proofs.WorkPlaces.{Lookup, Named, New, IsFound, Finds, is_local, is_open, new_object, RefersTo, IsKind, MayLeave}
use Rattle.ipc_store.proofs.LocalCalls.{back, ended, IsLocal, local, here, after, after_settled}
use Rattle.std.proofs.lemmas.Grind.{common_steps}

-- what a call makes of tables t and of the object o in place i: the same in each settled kernel that has them, and where it works
-- on that place
record IsAnswered (c : Call) (i : ℕ) (t : OpenTables) (o : Place) : Type 0 where
  reply : Answer
  object : Place
  tables : OpenTables
  same : (k : KernelState) (p : ℕ) → IsSettled k → operand_in k t c ≡ Some i → HasOperand k p i t o → answer k p c ≡ (reply, with_operand k p i object tables)

-- the place that is closed, and its object has a name
closed_place : (ps : List Place) (x : Option ℕ) (i : ℕ) → option_and_then (if_named ps) x ≡ Some i → (x ≡ Some i) × (has_name (place_at ps i) ≡ true)
closed_place ps x i e = search rules

-- the end of a process where each object has a name
all_named : (ps : List Place) (i : ℕ) → cond (are_named ps) (Some 0) None ≡ Some i → are_named ps ≡ true
all_named ps i e = (cond_some (are_named ps) 0 i e).0

-- what an open finds in the place that it works on, by whether that is empty
abbrev lookup : Place → Lookup
lookup o = cond (is_empty o) New Named

finds_name : (name_of : Place → Option (List ℕ)) (ps : List Place) (n : List ℕ) (i : ℕ) (o : Place) → name_of Empty ≡ None → place_at ps i ≡ o
    → option_or (place_named name_of ps n) (position is_empty ps) ≡ Some i → IsFound name_of n ps i (lookup o)
finds_name name_of ps n i o nameless is at = grind (arith, common_steps, IsFound, New, Named, empty_of, name_found, first_empty_place)

finds : (k : KernelState) (t : OpenTables) (c : Call) (i : ℕ) (o : Place) → place_at k.places i ≡ o → operand_in k t c ≡ Some i → Finds c k.places i (lookup o)
finds k t x i o is at = grind (arith, common_steps, finds_name)

refers : (k : KernelState) (t : OpenTables) (c : Call) (i : ℕ) → operand_in k t c ≡ Some i → RefersTo c i t
refers k t x i at = search rules

-- where a call has no open object, what it works on has a name, or is none
queue_has_name : (p : Place) (n : List ℕ) → queue_name p ≡ Some n → is_named p ≡ true
queue_has_name x n e = search rules

semaphore_has_name : (p : Place) (n : List ℕ) → semaphore_name p ≡ Some n → is_named p ≡ true
semaphore_has_name x n e = search rules

named_found : (name_of : Place → Option (List ℕ)) (ps : List Place) (n : List ℕ) (i : ℕ) (b : Bool) → ((p : Place) → name_of p ≡ Some n → is_named p ≡ true)
    → IsFound name_of n ps i (cond b New Named) → is_named (place_at ps i) ≡ true
named_found name_of ps n i x has e = grind (arith, common_steps, is_named, first_empty_place, name_found)

named_operand : (k : KernelState) (t : OpenTables) (c : Call) (i : ℕ) → operand_in k t c ≡ Some i → handle_of c ≡ None → is_named (place_at k.places i) ≡ true
named_operand k t (MqOpen name flags attr) i at none = named_found queue_name k.places name i _ (λ p. queue_has_name p name) (finds k t (MqOpen name flags attr) i _ refl at)
named_operand k t (MqClose d) i at none = or_right (is_empty (place_at k.places i)) _ (closed_place k.places (place_of t (Mqd d)) i at).1
named_operand k t (SemOpen name flags value) i at none = named_found semaphore_name k.places name i _ (λ p. semaphore_has_name p name) (finds k t (SemOpen name flags value) i _ refl at)
named_operand k t (SemClose s) i at none = or_right (is_empty (place_at k.places i)) _ (closed_place k.places (place_of t (Sem s)) i at).1
named_operand k t Exit i at none = all_at is_named k.places i Empty refl (all_named k.places i at)
named_operand k t other i at none = absurd (cc)

made_named : (c : Call) → is_open c ≡ true → is_named (new_object c) ≡ true
made_named x e = search rules

-- an object that was kept is kept with another state
kept_kind : (b : Bool) (x y : Place) → IsKind x y → cond (has_name x || b) x Empty ≡ x → cond (has_name y || b) y Empty ≡ y
kept_kind b x y kind e = search rules

-- a call on place i leaves a kernel settled
settled_local : (k : KernelState) (c : Call) (p i : ℕ) (l : Lookup) (x : Place) (u : OpenTables) → IsSettled k → (handle_of c ≡ None → is_named (place_at k.places i) ≡ true) → MayLeave c l (place_at k.places i) x
    → ((n : ℕ) → (n ≡ i → handle_of c ≡ None → ⊥) → process_refers n u ≡ process_refers n (process_at k.processes p)) → IsSettled (with_operand k p i x u)
settled_local k c p i l x u s named leaves same = settled_by (set k.processes p u) (set k.places i x) (λ n h.
    let inside : n < length k.places = omega (arith, length-set k.places i x) in
    elim (cases_eq n i) [
      | inl here ↦ (let less : i < length k.places = omega arith in rw (here, get_or-set_same k.places i x Empty less) (kept less leaves))
      | inr other ↦ rw (get_or-set_other k.places i n x Empty other)
          (ap (λ b. cond (has_name (get_or k.places n Empty) || b) (get_or k.places n Empty) Empty) (any_set (process_refers n) k.processes p u nobody (same n (λ e none. other e)))
          ∙ settled_at k.processes k.places s n Empty inside)
    ])
  where
    by : i < length k.places → IsKind (place_at k.places i) x → (b : Bool) → is_named (place_at k.places i) ≡ b → place_or_empty (set k.processes p u) i x ≡ x
    by less kind true e = place_kept (set k.processes p u) i x (ap (λ b. b || has_name x) kind.filled ∙ ap (λ b. is_empty (place_at k.places i) || b) kind.named ∙ e)
    by less kind false e =
        ap (λ b. cond (has_name x || b) x Empty) (any_set (process_refers i) k.processes p u nobody (same i (λ d none. let no : false ≡ true = sym e ∙ named none in absurd (cc))))
        ∙ kept_kind _ (place_at k.places i) x kind (rw (unwrap_or-slice_get k.places i Empty) (settled_at k.processes k.places s i Empty less))

    kept : i < length k.places → MayLeave c l (place_at k.places i) x → place_or_empty (set k.processes p u) i x ≡ x
    kept less (inl kind) = by less kind.0 (is_named (place_at k.places i)) refl
    kept less (inr new) = place_kept (set k.processes p u) i x (ap is_named new.2 ∙ made_named c new.0)

by_local : (j : KernelState) (c : Call) (i : ℕ) (t : OpenTables) (o : Place) → operand_in j t c ≡ Some i → is_local c ≡ true → IsAnswered c i t o
by_local j c i t o at is = record {
  reply = h.reply;
  object = h.object o;
  tables = h.tables;
  same = λ k p s at_k has.
      let there : place_at k.places i ≡ o = ap (λ x. unwrap_or x Empty) has.object in
      let tables : process_at k.processes p ≡ t = ap (λ x. unwrap_or x nobody) has.tables in
      here c i t (λ x. x ≡ o) (lookup o) _ h k p tables there (finds k t c i o there at_k)
      ∙ ap (λ x. (h.reply, after h.completes (with_operand k p i (h.object x) h.tables))) there
      ∙ ap (λ x. (h.reply, x)) (after_settled h.completes _ (settled_local k c p i (lookup o) (h.object o) h.tables s (named_operand k t c i at_k)
      (subst (λ x. MayLeave c (lookup o) x (h.object o)) (sym there) (h.leaves o))
      (λ n apart. h.refers n o (λ e none. absurd (apart e none)) ∙ ap (process_refers n) (sym tables))));
}
  where
    h : IsLocal c i t (λ x. x ≡ o) (lookup o) (λ f k p. answer k p c)
    h = local c i t (λ x. x ≡ o) (lookup o) o (λ x e. e) (refers j t c i at) is

answered : (j : KernelState) (c : Call) (i : ℕ) (t : OpenTables) (o : Place) → operand_in j t c ≡ Some i → IsAnswered c i t o
unfolding answer
answered j (MqUnlink name) i t o at = absurd (cc)
answered j (SemUnlink name) i t o at = absurd (cc)
answered j Exit i t o at = record {
  reply = Done (Plain 0);
  object = o;
  tables = closed_process;
  same = λ k p s at_k has.
      ended k p (all_named k.places i at_k)
      ∙ ap (λ ps. (Done (Plain 0), record { places = ps; processes = set k.processes p closed_process })) (sym (back k.places i Empty o (ap (λ x. unwrap_or x Empty) has.object)));
}
answered j c i t o at = by_local j c i t o at refl

-- what is in the written place, and the written tables
written : (j : KernelState) (q i : ℕ) (t u x : OpenTables) (o r y : Place) → HasOperand j q i t o → HasOperand (with_operand j q i r u) q i x y → (x ≡ u) × (y ≡ r)
written j q i t u x o r y has new = grind (arith, common_steps, get_set)

pub answers_by_operand : AnswersByOperand
answers_by_operand k j p q c i t o sk sj at_k at_j hk hj =
    let here = answered j c i t o at_j in
    record {
      answers = ap (λ (x : Outcome). x.0) (here.same k p sk at_k hk) ∙ sym (ap (λ (x : Outcome). x.0) (here.same j q sj at_j hj));
      kernels = λ u y new.
          let is = written j q i t here.tables u o here.object y hj (subst (λ (x : Outcome). HasOperand x.1 q i u y) (here.same j q sj at_j hj) new) in
          ap (λ (x : Outcome). x.1) (here.same k p sk at_k hk) ∙ sym (ap (λ x. with_operand k p i x u) is.1 ∙ ap (λ x. with_operand k p i here.object x) is.0);
    }
