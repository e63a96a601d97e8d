-- Kernels that are alike answer each call alike, and are alike after it.
use Rattle.std.proofs.Common.{◌≡◌, ℕ, Bool, true, false, List, set, Option, None, refl, sym, ap, subst, ◌∙◌, rules, arith}
use Rattle.std.proofs.lemmas.List.Quantifiers.{position-Some}
use Rattle.ipc_kernel.specs.declared.place.Place.{Place}
use Rattle.ipc_kernel.specs.declared.place.Place.TheVariants.{Empty}
use Rattle.ipc_kernel.specs.declared.process.OpenTables.{OpenTables}
use Rattle.ipc_kernel.specs.declared.call.Call.{Call}
use Rattle.ipc_kernel.specs.declared.call.Call.TheVariants.{MqOpen, MqUnlink, SemOpen, SemUnlink, Exit}
use Rattle.ipc_kernel.specs.declared.call.Answer.{Answer}
use Rattle.ipc_kernel.specs.declared.call.Reply.TheVariants.{Plain}
use Rattle.ipc_kernel.specs.Processes.{process_at, process_refers, closed_process}
use Rattle.ipc_kernel.specs.Places.{place_at, queue_named, semaphore_named, queue_name, semaphore_name}
use Rattle.ipc_kernel.specs.Kernel.{KernelState}
use Rattle.ipc_kernel.specs.Outcomes.{unlink}
use Rattle.ipc_kernel.specs.Answer.{answer}
use Rattle.ipc_kernel.specs.Alike.{renamed_process, AreDistinct, AnswersAlike, StaysConsistent}
use Rattle.ipc_kernel.specs.Operands.{with_operand}
use Rattle.ipc_kernel.proofs.IndexLemmas.{place_at-set_same}
use Rattle.ipc_store.proofs.Renamings.{process_at-renamed}
use Rattle.ipc_store.proofs.Alikes.{alike_itself}
use Rattle.ipc_store.proofs.Consistents.{IsFree}
use Rattle.ipc_store.proofs.NamedPlaces.{name_found}
use Rattle.ipc_store.proofs.WorkPlaces.{Lookup, Named, New, Nowhere, IsFound, Finds, is_open, new_object, is_local, any_handle, RefersTo, OpensNone, Keeps, MayLeave, referred}
use Rattle.ipc_store.proofs.LocalCalls.{IsLocal, local, here, after}
use Rattle.ipc_store.proofs.AlikeOutcomes.{IsTwin, AreLike, like_done, like_unlinked, own_name, not_named, twin_place, twin_tables, found_both, found_named}
use Rattle.std.proofs.lemmas.Grind.{common_steps}

new_free : (ps : List Place) (a : ℕ) (c : Call) → is_open c ≡ true → Finds c ps a New → IsFree queue_name ps a (new_object c) × IsFree semaphore_name ps a (new_object c)
new_free ps a x opens finds = grind (arith, common_steps, not_named)

-- and so has what a call leaves
left_filled : (c : Call) (l : Lookup) (o x : Place) → MayLeave c l o x → x ≡ Empty → o ≡ Empty
left_filled c l o x y e = search rules

left_free : (ps : List Place) (a : ℕ) (c : Call) (l : Lookup) (x : Place) → AreDistinct queue_name ps → AreDistinct semaphore_name ps → Finds c ps a l → MayLeave c l (place_at ps a) x
    → IsFree queue_name ps a x × IsFree semaphore_name ps a x
left_free ps a c l x queues semaphores finds y = grind (arith, common_steps, own_name, IsFree, new_free, Finds)

-- an open that leaves its place empty opens nothing
none_found : (name_of : Place → Option (List ℕ)) (ps : List Place) (n : List ℕ) (i : ℕ) (l : Lookup) (x : Place) → name_of Empty ≡ None → IsFound name_of n ps i l
    → (x ≡ Empty → place_at ps i ≡ Empty) → place_at (set ps i x) i ≡ Empty → OpensNone l x
none_found name_of ps n i y x nameless found filled e = grind (arith, common_steps, Named, position-Some, place_at-set_same, name_found, New, Nowhere)

opens_none : (ps : List Place) (i : ℕ) (c : Call) (l : Lookup) (x : Place) → is_open c ≡ true → Finds c ps i l → (x ≡ Empty → place_at ps i ≡ Empty) → place_at (set ps i x) i ≡ Empty → OpensNone l x
opens_none ps i (MqOpen name flags attr) l x opens finds filled e = none_found queue_name ps name i l x refl finds filled e
opens_none ps i (SemOpen name flags value) l x opens finds filled e = none_found semaphore_name ps name i l x refl finds filled e
opens_none ps i other l x opens finds filled e = absurd (cc)

like_after : (f g : ℕ → ℕ) (k j : KernelState) → IsTwin f g k j → (b : Bool) (a : Answer) → AreLike (a, after b k) (a, after b j)
like_after f g k j t true a = let h = like_done f g k j t (Plain 0) in record { answer = refl; consistent = h.consistent; alike = h.alike }
like_after f g k j t false a = record { answer = refl; consistent = t.consistent; alike = (f, g, t.renaming) }

-- a call on one place
like_local : (f g : ℕ → ℕ) (k j : KernelState) → IsTwin f g k j → (p : ℕ) (c : Call) → is_local c ≡ true → (i : ℕ) (l : Lookup) → Finds c k.places i l → Finds c j.places (f i) l
    → RefersTo c i (process_at k.processes p) → AreLike (answer k p c) (answer j p c)
like_local f g k j t p c is i l first second refers =
    subst (λ y. AreLike y (answer j p c)) (sym (here c i u (λ y. y ≡ o) l _ s k p refl refl first))
    (subst (λ y. AreLike (s.reply, after s.completes (with_operand k p i x s.tables)) y) (sym other) (like_after f g _ _ twin s.completes s.reply))
  where
    u : OpenTables
    u = process_at k.processes p

    o : Place
    o = place_at k.places i

    s : IsLocal c i u (λ y. y ≡ o) l (λ f k p. answer k p c)
    s = local c i u (λ y. y ≡ o) l o (λ y e. e) refers is

    x : Place
    x = s.object o

    other : answer j p c ≡ (s.reply, after s.completes (with_operand j p (f i) x (renamed_process f s.tables)))
    other =
        s.same f g j p (record {
          permutation = t.renaming.permutation;
          tables = ap (λ ps. process_at ps p) t.renaming.processes ∙ process_at-renamed f k.processes p;
          object = t.renaming.places i;
          finds = second;
        }) ∙ ap (λ y. (s.reply, after s.completes (with_operand j p (f i) (s.object y) (renamed_process f s.tables)))) (t.renaming.places i)

    filled : x ≡ Empty → o ≡ Empty
    filled e = left_filled c l o x (s.leaves o) e

    keeps : (n : ℕ) → place_at (set k.places i x) n ≡ Empty → process_refers n u ≡ false → Keeps c l i u n x
    keeps n e none = λ same closes. (λ opens. opens_none k.places i c l x opens first filled (subst (λ m. place_at (set k.places i x) m ≡ Empty) same e), none)

    twin : IsTwin f g (with_operand k p i x s.tables) (with_operand j p (f i) x (renamed_process f s.tables))
    twin =
        let free = left_free k.places i c l x t.consistent.queues t.consistent.semaphores first (s.leaves o) in
        twin_tables f g _ _ (twin_place f g k j t i x filled free.0 free.1) p s.tables (λ n e none. s.refers n o (keeps n e none) ∙ none)

-- every call
like : (f g : ℕ → ℕ) (k j : KernelState) → IsTwin f g k j → (p : ℕ) (c : Call) → AreLike (answer k p c) (answer j p c)
unfolding answer
like f g k j t p (MqOpen name flags attr) =
    let b = found_both f g k j t queue_name refl t.consistent.queues name in
    like_local b.2 b.3 k j (record { consistent = t.consistent; renaming = b.4 }) p (MqOpen name flags attr) refl b.0 b.1 b.5 b.6 (λ h n e is. absurd (cc))
like f g k j t p (SemOpen name flags value) =
    let b = found_both f g k j t semaphore_name refl t.consistent.semaphores name in
    like_local b.2 b.3 k j (record { consistent = t.consistent; renaming = b.4 }) p (SemOpen name flags value) refl b.0 b.1 b.5 b.6 (λ h n e is. absurd (cc))
like f g k j t p (MqUnlink name) =
    subst (λ o. AreLike (unlink k (queue_named k.places name)) (unlink j o)) (sym (found_named f g k j t.renaming queue_name refl t.consistent.queues name)) (like_unlinked f g k j t (queue_named k.places name))
like f g k j t p (SemUnlink name) =
    subst (λ o. AreLike (unlink k (semaphore_named k.places name)) (unlink j o)) (sym (found_named f g k j t.renaming semaphore_name refl t.consistent.semaphores name))
    (like_unlinked f g k j t (semaphore_named k.places name))
like f g k j t p Exit = like_done f g _ _ (twin_tables f g k j t p closed_process (λ n e none. refl)) (Plain 0)
like f g k j t p c = let r = referred (process_at k.processes p) (any_handle c) in like_local f g k j t p c refl r.0 Nowhere tt tt r.1

pub answers_alike : AnswersAlike
answers_alike k j p c s a = let both = like a.0 a.1 k j (record { consistent = s; renaming = a.2 }) p c in (both.answer, both.alike)

pub stays_consistent : StaysConsistent
stays_consistent k p c s = let a = alike_itself k in (like a.0 a.1 k k (record { consistent = s; renaming = a.2 }) p c).consistent
