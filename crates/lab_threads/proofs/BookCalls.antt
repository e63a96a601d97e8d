-- A book after a call.
use Rattle.std.proofs.Common.{ℕ, zero, suc, ◌≡◌, ◌<◌, ◌++◌, List, [], ◌∷◌, Option, Some, None, true, false, Bool, cond, refl, arith, is_some, length, slice_get, set, rules}
use Rattle.std.proofs.lemmas.List.{length-set, length-replicate}
use Rattle.ipc_kernel.specs.Kernel.{KernelState, empty_kernel}
use Rattle.ipc_kernel.specs.Answer.{answer}
use Rattle.ipc_kernel.specs.declared.call.Call.{Call}
use Rattle.ipc_kernel.specs.declared.call.Answer.{Answer}
use Rattle.ipc_kernel.specs.declared.call.Reply.{Reply}
use Rattle.ipc_kernel.specs.declared.call.Answer.TheVariants.{Done, Wait}
use Rattle.ipc_kernel.proofs.LawfulAnswers.{answer_count, answer_wait}
use Rattle.lab_sched.specs.declared.stepped.Entry.{Entry}
use Rattle.lab_sched.specs.History.{replay, still, waits}
use Rattle.lab_sched.proofs.Histories.{replay-append, legal-append, waits-append}
use Rattle.lab_sched.proofs.ListPlaces.{get-set}
use Rattle.lab_threads.specs.Private.BookInvariant.{BookInvariant}
use Rattle.lab_threads.specs.BookState.{BookState, entries_of_call}

-- what a first call adds
pub added_first : (o : Option Call) (p : ℕ) (c : Call) (a : Answer) → is_some o ≡ false → entries_of_call o p c a ≡ record { pid = p; call = c; answer = a } ∷ []
added_first x p c a none = search rules

-- what an answered call adds
pub added_done : (o : Option Call) (p : ℕ) (c : Call) (r : Reply) → entries_of_call o p c (Done r) ≡ record { pid = p; call = c; answer = Done r } ∷ []
added_done x p c r = search rules

-- the try of a process that must still wait adds nothing
pub added_still : (o : Option Call) (p : ℕ) (c : Call) → is_some o ≡ true → entries_of_call o p c Wait ≡ []
added_still x p c some = search rules

pick : (b : Bool) (x : Option Call) (y : Option (Option Call)) (z : Option Call) → y ≡ Some z → cond b (Some x) y ≡ Some (cond b x z)
pick u x y z e = search rules

pub book_more : (k : KernelState) (h : List Entry) (ws : List (Option Call)) (p : ℕ) (c : Call) (a : Answer)
    → BookInvariant k h ws → p < length ws → a ≡ (answer k p c).0
    → BookInvariant (answer k p c).1 (h ++ record { pid = p; call = c; answer = a } ∷ []) (set ws p (still c a))
book_more k h ws p c a book within is = search (rules, length-set, legal-append, replay-append, get-set, pick, waits-append, answer_count)

-- the same, of what the code has afterwards
pub book_after : {k k' : KernelState} {h h' : List Entry} {ws ws' : List (Option Call)} (p : ℕ) (c : Call) (a : Answer)
    → BookInvariant k h ws → p < length ws → a ≡ (answer k p c).0
    → k' ≡ (answer k p c).1 → h' ≡ h ++ record { pid = p; call = c; answer = a } ∷ [] → ws' ≡ set ws p (still c a)
    → BookInvariant k' h' ws'
book_after {k} {k'} {h} {h'} {ws} {ws'} p c a book within is k-is h-is ws-is =
    rw (k-is, h-is, ws-is) (book_more k h ws p c a book within is)

-- a book before its first call
pub book_none : {k : KernelState} (ws : List (Option Call)) (n : ℕ) → k ≡ empty_kernel n → length ws ≡ n
    → ((p : ℕ) → p < length ws → slice_get ws p ≡ Some None) → BookInvariant k [] ws
book_none {k} ws n k-is len none = search (rules, length-replicate)

pub none_more : (ws : List (Option Call)) → ((p : ℕ) → p < length ws → slice_get ws p ≡ Some None)
    → (p : ℕ) → p < length (ws ++ None ∷ []) → slice_get (ws ++ None ∷ []) p ≡ Some None
none_more [] none zero below = refl
none_more [] none (suc p) below = absurd (omega arith)
none_more (w ∷ ws) none zero below = none 0 (omega arith)
none_more (w ∷ ws) none (suc p) below = none_more ws (λ q h. none (suc q) (omega arith)) p (omega arith)

pub none_after : (ws ws' : List (Option Call)) → ws' ≡ ws ++ None ∷ [] → ((p : ℕ) → p < length ws → slice_get ws p ≡ Some None)
    → (p : ℕ) → p < length ws' → slice_get ws' p ≡ Some None
none_after ws ws' is none = rw is (none_more ws none)

-- a book in which a process must still wait
pub book_still : {k k' : KernelState} {h h' : List Entry} {ws : List (Option Call)} (p : ℕ) (c : Call) (a : Answer)
    → BookInvariant k h ws → a ≡ Wait → (a, k') ≡ answer k p c → h' ≡ h → BookInvariant k' h' ws
book_still {k} {k'} {h} {h'} {ws} p c a book waits is h-is = search (rules, answer_wait)

-- the kernel of a book after a call that has an entry
pub kernel_after : (k k' : KernelState) (h h' : List Entry) (ws ws' : List (Option Call)) (p : ℕ) (c : Call) (b : BookState) → BookInvariant k h ws → BookInvariant k' h' ws'
    → record { count = length ws; history = h } ≡ b → k' ≡ (answer k p c).1
    → replay (empty_kernel (length ws')) h' ≡ (answer (replay (empty_kernel b.count) b.history) p c).1
kernel_after k k' h h' ws ws' p c b book book' b-is k-is = search rules
