-- What a step makes of the state: of a process that stands at a call, and over kernels that are alike.
use Rattle.std.proofs.Common.{ℕ, ◌≡◌, ◌+◌, ◌*◌, ◌/◌, ◌%◌, ◌&&◌, ◌||◌, Bool, true, false, nat_lt, if◌then◌else◌, List, [], ◌∷◌, Option, Some, None, option_and_then, length, slice_get, refl, sym, ap, ◌∙◌, arith}
use Rattle.std.specs.Option.{option_map}
use Rattle.std.proofs.lemmas.Bool.{or_parts}
use Rattle.std.specs.List.{list_any}
use Rattle.lc3_machine.specs.Process.{Process as Machine}
use Rattle.ipc_kernel.specs.declared.call.Call.{Call}
use Rattle.ipc_kernel.specs.declared.call.Call.TheVariants.{MqClose, MqSend, MqReceive, MqGetattr, MqSetattr, SemClose, SemWait, SemTrywait, SemPost, SemGetvalue}
use Rattle.ipc_kernel.specs.declared.call.Answer.{Answer}
use Rattle.ipc_kernel.specs.declared.call.Answer.TheVariants.{Done, Wait}
use Rattle.ipc_kernel.specs.declared.process.Slot.{Slot}
use Rattle.ipc_kernel.specs.declared.process.Descriptor.{Descriptor}
use Rattle.ipc_kernel.specs.Answer.{answer}
use Rattle.ipc_kernel.specs.Kernel.{KernelState}
use Rattle.ipc_kernel.specs.Places.{place_at, is_name}
use Rattle.ipc_kernel.specs.Processes.{descriptor_of, slot_of}
use Rattle.ipc_kernel.specs.Alike.{renamed_descriptor, renamed_slot, IsRenaming, IsAlike}
use Rattle.ipc_store.proofs.Renamings.{descriptor_of-renamed, slot_of-renamed}
use Rattle.ipc_traps.specs.declared.service.Service.TheVariants as service
use Rattle.lab_sched.specs.Worlds.{Process, Running, Waiting, Ended, NextAction, moves, calls, next_action, StepEffect, nothing, local_step, kernel_step, step_effect, first_try, retry}
use Rattle.lab_conditions.specs.Conditions.{StandsAt, call_of, call_next, option_any}
use Rattle.lab_conditions.specs.Refusals.{is_process}
use Rattle.lab_worlds.specs.Unwaiting.{GoesOn}
use Rattle.lab_worlds.proofs.FewestCalls.{calls_in}
use Rattle.lab_ways.specs.declared.calls.CallKind.{CallKind}
use Rattle.lab_ways.specs.declared.wanted.Pattern.{Pattern}
use Rattle.lab_ways.specs.declared.wanted.Pattern.TheVariants.{AtLeast, InOrder, Together, NoneOf, NoneBut}
use Rattle.lab_ways.specs.declared.wanted.Wanted.{Wanted}
use Rattle.lab_ways.specs.Calls.{object_name, queue_behind, semaphore_behind, name_called, is_called, is_on, is_of, is_of_any, is_exit, is_success}
use Rattle.lab_ways.specs.Wanted.{is_of_next, next_turn, next_held, next_units, are_held, next_by, next_answered, next_state}

-- the object behind a descriptor, or a slot, has its name in both kernels
renamed_then : {H : Type 0} (f g : H → Option (List ℕ)) (renamed : H → H) → ((h : H) → f (renamed h) ≡ g h) → (o : Option H) → option_and_then f (option_map renamed o) ≡ option_and_then g o
renamed_then f g renamed same None = refl
renamed_then f g renamed same (Some h) = same h

queue_alike : (f g : ℕ → ℕ) (k j : KernelState) → IsRenaming f g k j → (p d : ℕ) → queue_behind j p d ≡ queue_behind k p d
queue_alike f g k j r p d =
    ap (λ ps. option_and_then (λ held. object_name (place_at j.places held.place)) (descriptor_of ps p d)) r.processes
    ∙ ap (option_and_then (λ held. object_name (place_at j.places held.place))) (descriptor_of-renamed f k.processes p d)
    ∙ renamed_then (λ (held : Descriptor). object_name (place_at j.places held.place)) (λ held. object_name (place_at k.places held.place)) (renamed_descriptor f) (λ held. ap object_name (r.places held.place))
    (descriptor_of k.processes p d)

semaphore_alike : (f g : ℕ → ℕ) (k j : KernelState) → IsRenaming f g k j → (p s : ℕ) → semaphore_behind j p s ≡ semaphore_behind k p s
semaphore_alike f g k j r p s =
    ap (λ ps. option_and_then (λ held. object_name (place_at j.places held.place)) (slot_of ps p s)) r.processes
    ∙ ap (option_and_then (λ held. object_name (place_at j.places held.place))) (slot_of-renamed f k.processes p s)
    ∙ renamed_then (λ (held : Slot). object_name (place_at j.places held.place)) (λ held. object_name (place_at k.places held.place)) (renamed_slot f) (λ held. ap object_name (r.places held.place)) (slot_of k.processes p s)

-- so has the object of a call
name_alike : (k j : KernelState) (p : ℕ) (c : Call) → IsAlike k j → name_called j p c ≡ name_called k p c
name_alike k j p (MqClose d) a = queue_alike a.0 a.1 k j a.2 p d
name_alike k j p (MqSend d words prio) a = queue_alike a.0 a.1 k j a.2 p d
name_alike k j p (MqReceive d len) a = queue_alike a.0 a.1 k j a.2 p d
name_alike k j p (MqGetattr d) a = queue_alike a.0 a.1 k j a.2 p d
name_alike k j p (MqSetattr d flags) a = queue_alike a.0 a.1 k j a.2 p d
name_alike k j p (SemClose s) a = semaphore_alike a.0 a.1 k j a.2 p s
name_alike k j p (SemWait s) a = semaphore_alike a.0 a.1 k j a.2 p s
name_alike k j p (SemTrywait s) a = semaphore_alike a.0 a.1 k j a.2 p s
name_alike k j p (SemPost s) a = semaphore_alike a.0 a.1 k j a.2 p s
name_alike k j p (SemGetvalue s) a = semaphore_alike a.0 a.1 k j a.2 p s
name_alike k j p _ a = refl

on_alike : (o : Option (List ℕ)) (k j : KernelState) (p : ℕ) (c : Call) → IsAlike k j → is_on o j p c ≡ is_on o k p c
on_alike None k j p c a = refl
on_alike (Some name) k j p c a = ap (is_name name) (name_alike k j p c a)

of_alike : (x : CallKind) (k j : KernelState) (p : ℕ) (c : Call) → IsAlike k j → is_of x j p c ≡ is_of x k p c
of_alike x k j p c a = ap (λ b. is_called x.service c && b) (on_alike x.object k j p c a)

any_alike : (xs : List CallKind) (k j : KernelState) (p : ℕ) (c : Call) → IsAlike k j → is_of_any xs j p c ≡ is_of_any xs k p c
any_alike [] k j p c a = refl
any_alike (x ∷ xs) k j p c a = ap (λ b. b || is_of_any xs j p c) (of_alike x k j p c a) ∙ ap (λ b. is_of x k p c || b) (any_alike xs k j p c a)

turn_alike : (o : Option CallKind) (k j : KernelState) (p : ℕ) (c : Call) → IsAlike k j → option_any (λ x. is_of x j p c) o ≡ option_any (λ x. is_of x k p c) o
turn_alike None k j p c a = refl
turn_alike (Some x) k j p c a = of_alike x k j p c a

units_alike : (names : List (List ℕ)) (s : ℕ) (k j : KernelState) (p : ℕ) (c : Call) → IsAlike k j → next_units names s j p c ≡ next_units names s k p c
unfolding next_units
units_alike [] s k j p c a = refl
units_alike (name ∷ names) s k j p c a =
    ap (λ b. (if (is_called service.SemWait c || is_called service.SemTrywait c) && b then 1 else if is_called service.SemPost c && b then 0 else s % 2) + 2 * next_units names (s / 2) j p c)
    (on_alike (Some name) k j p c a)
    ∙ ap (λ n. next_held name (s % 2) k p c + 2 * n) (units_alike names (s / 2) k j p c a)

-- a call makes the same of the state over both kernels
by_alike : (x : Pattern) (s : ℕ) (k j : KernelState) (p : ℕ) (c : Call) → IsAlike k j → next_by x s j p c ≡ next_by x s k p c
by_alike (AtLeast x n) s k j p c a = ap (λ b. if b then (if nat_lt s n then s + 1 else n) else s) (of_alike x k j p c a)
by_alike (InOrder xs) s k j p c a =
    ap (λ b. if b then (if is_of_next xs.items s j p c then s + 1 else length xs.items + 1) else s) (any_alike xs.items k j p c a)
    ∙ ap (λ b. if is_of_any xs.items k p c then (if b then s + 1 else length xs.items + 1) else s) (turn_alike (slice_get xs.items s) k j p c a)
by_alike (Together names) s k j p c a = ap (λ n. if are_held names.items s then s else n) (units_alike names.items s k j p c a)
by_alike (NoneOf xs) s k j p c a = ap (λ b. if b then 1 else s) (any_alike xs.items k j p c a)
by_alike (NoneBut xs) s k j p c a = ap (λ b. if is_exit c || b then s else 1) (any_alike xs.items k j p c a)

-- so does a step
pub next_alike : (x : Wanted) (s : ℕ) (k j : KernelState) (p : ℕ) (t : StepEffect) → IsAlike k j → next_state x s j p t ≡ next_state x s k p t
next_alike x s k j p (kernel_step m c r) a = ap (λ n. if is_process x.process p && is_success r then n else s) (by_alike x.pattern s k j p c a)
next_alike x s k j p _ a = refl

-- a call that waits is not read
unread : (b : Bool) (n s : ℕ) → (if b && false then n else s) ≡ s
unread true n s = refl
unread false n s = refl

again : (x : Wanted) (s : ℕ) (k : KernelState) (p : ℕ) (m : Machine) (c : Call) (a : Answer) → next_state x s k p (retry m c a) ≡ next_answered x s k p c a
again x s k p m c Wait = sym (unread (is_process x.process p) (next_by x.pattern s k p c) s)
again x s k p m c (Done r) = refl

-- the step of a process that stands at a call reads its call
pub standing : (x : Wanted) (s : ℕ) (k : KernelState) (p : ℕ) (u : Process) (c : Call) → StandsAt u c
    → next_state x s k p (step_effect k p (Some u)) ≡ next_answered x s k p c (answer k p c).0
standing x s k p (Running m) c at = ap (λ a. next_state x s k p (first_try k p m a)) at
standing x s k p (Waiting m d) c at = again x s k p m d (answer k p d).0 ∙ ap (λ e. next_answered x s k p e (answer k p e).0) at
standing x s k p (Ended e) c at = absurd at

acts : (x : Wanted) (s : ℕ) (k : KernelState) (p : ℕ) (m : Machine) (a : NextAction) → call_next a ≡ None → next_state x s k p (first_try k p m a) ≡ s
acts x s k p m (moves n) none = refl
acts x s k p m (calls c) none = absurd (cc)

-- that of one that stands at none reads none
pub no_call : (x : Wanted) (s : ℕ) (k : KernelState) (p : ℕ) (u : Process) → call_of u ≡ None → next_state x s k p (step_effect k p (Some u)) ≡ s
no_call x s k p (Running m) none = acts x s k p m (next_action m) none
no_call x s k p (Waiting m c) none = absurd (cc)
no_call x s k p (Ended e) none = refl

-- nor does one by which no process goes on
pub no_step : (x : Wanted) (s : ℕ) (k : KernelState) (p : ℕ) (t : StepEffect) → (GoesOn t → ⊥) → next_state x s k p t ≡ s
no_step x s k p nothing none = refl
no_step x s k p (local_step n) none = absurd (none tt)
no_step x s k p (kernel_step m c Wait) none = unread (is_process x.process p) (next_by x.pattern s k p c) s
no_step x s k p (kernel_step m c (Done r)) none = absurd (none tt)

-- nor does one that is no call
pub uncalled : (x : Wanted) (s : ℕ) (k : KernelState) (p : ℕ) (t : StepEffect) → calls_in p t ≡ 0 → next_state x s k p t ≡ s
uncalled x s k p (kernel_step m c a) none = absurd (omega (arith, none))
uncalled x s k p _ none = refl

-- a call whose name no kind has is of none
uncalled_kinds : (xs : List CallKind) (k : KernelState) (p : ℕ) (c : Call) → list_any (λ x. is_called x.service c) xs ≡ false → is_of_any xs k p c ≡ false
uncalled_kinds [] k p c none = refl
uncalled_kinds (x ∷ xs) k p c none =
    let both = or_parts (is_called x.service c) (list_any (λ y. is_called y.service c) xs) none in
    ap (λ b. b && is_on x.object k p c || is_of_any xs k p c) both.0 ∙ uncalled_kinds xs k p c both.1

-- units stay where no unit is moved
units_stay : (names : List (List ℕ)) (s : ℕ) (k : KernelState) (p : ℕ) (c : Call) → (is_called service.SemWait c || is_called service.SemTrywait c) ≡ false → is_called service.SemPost c ≡ false
    → next_units names s k p c ≡ s
unfolding next_units
units_stay [] s k p c waits posts = refl
units_stay (name ∷ names) s k p c waits posts =
    let digit : next_held name (s % 2) k p c ≡ s % 2 =
    ap (λ b. if b && is_on (Some name) k p c then 1 else if is_called service.SemPost c && is_on (Some name) k p c then 0 else s % 2) waits
    ∙ ap (λ b. if b && is_on (Some name) k p c then 0 else s % 2) posts in
    let rest = units_stay names (s / 2) k p c waits posts in
    ap (λ n. n + 2 * next_units names (s / 2) k p c) digit ∙ ap (λ n. s % 2 + 2 * n) rest ∙ whole s
  where
    whole : (n : ℕ) → n % 2 + 2 * (n / 2) ≡ n
    whole n = omega arith

either_same : (b : Bool) (s : ℕ) → (if b then s else s) ≡ s
either_same true s = refl
either_same false s = refl

pub unread_turn : (xs : List CallKind) (s : ℕ) (k : KernelState) (p : ℕ) (c : Call) → list_any (λ x. is_called x.service c) xs ≡ false → next_turn xs s k p c ≡ s
unread_turn xs s k p c none = ap (λ b. if b then (if is_of_next xs s k p c then s + 1 else length xs + 1) else s) (uncalled_kinds xs k p c none)

pub unread_units : (names : List (List ℕ)) (s : ℕ) (k : KernelState) (p : ℕ) (c : Call) → (is_called service.SemWait c || is_called service.SemTrywait c || is_called service.SemPost c) ≡ false
    → (if are_held names s then s else next_units names s k p c) ≡ s
unread_units names s k p c none =
    let both = or_parts (is_called service.SemWait c || is_called service.SemTrywait c) (is_called service.SemPost c) none in
    ap (λ n. if are_held names s then s else n) (units_stay names s k p c both.0 both.1) ∙ either_same (are_held names s) s

pub unread_none : (xs : List CallKind) (s : ℕ) (k : KernelState) (p : ℕ) (c : Call) → list_any (λ x. is_called x.service c) xs ≡ false → (if is_of_any xs k p c then 1 else s) ≡ s
unread_none xs s k p c none = ap (λ b. if b then 1 else s) (uncalled_kinds xs k p c none)

-- nor is one of a process that isn't meant
pub other_process : (x : Wanted) (s : ℕ) (k : KernelState) (p : ℕ) (c : Call) (a : Answer) → is_process x.process p ≡ false → next_answered x s k p c a ≡ s
other_process x s k p c a other = ap (λ b. if b && is_success a then next_by x.pattern s k p c else s) other

-- nor one that leaves the state
pub unread_call : (x : Wanted) (s : ℕ) (k : KernelState) (p : ℕ) (c : Call) (a : Answer) → next_by x.pattern s k p c ≡ s → next_answered x s k p c a ≡ s
unread_call x s k p c a stays = ap (λ n. if is_process x.process p && is_success a then n else s) stays ∙ either_same (is_process x.process p && is_success a) s
