-- Kernels whose places are renamed, and what a change of each does.
use Rattle.std.proofs.Common.{◌≡◌, ℕ, ◌+◌, ◌<◌, ◌≤◌, ◌==◌, Bool, true, List, [], ◌∷◌, ◌++◌, length, take, drop, get_or, map, set, arith, Option, None, unwrap_or, slice_get, refl, sym, ap, ◌∙◌, position, is_none, rules}
use Rattle.std.specs.Option.{option_map}
use Rattle.std.specs.List.{list_any, position_or_len}
use Rattle.std.proofs.lemmas.Bool.{or_left, or_right}
use Rattle.std.proofs.lemmas.Iterator.Adapters.{option_map_id}
use Rattle.std.proofs.lemmas.Option.{slice_get-map}
use Rattle.std.proofs.lemmas.Simd.{map-map}
use Rattle.std.proofs.lemmas.List.{map-set, length-map, append-nil, append_assoc, drop_all, drop_more, length-take-le, map_more, set_at, take_all}
use Rattle.ipc_kernel.specs.declared.process.OpenTables.{OpenTables}
use Rattle.ipc_kernel.specs.declared.process.Slot.{Slot}
use Rattle.ipc_kernel.specs.declared.process.Descriptor.{Descriptor}
use Rattle.ipc_kernel.specs.Processes.{process_at, descriptor_of, slot_of, slot_refers, descriptor_refers, process_refers, is_referred}
use Rattle.ipc_kernel.specs.Alike.{renamed_descriptor, renamed_slot, renamed_process, IsPermutation}
use Rattle.std.proofs.lemmas.Grind.{common_steps}

abbrev pub tables : List (Option Descriptor) → List (Option Slot) → OpenTables
tables descriptors slots = record { descriptors = descriptors; slots = slots }

abbrev pub nobody : OpenTables
nobody = tables [] []

-- one element more is mapped in its place, and all are
pub renamed_more : {X : Type 0} (f : X → X) (xs ys : List X) (i : ℕ) (d : X) → i < length xs → ys ≡ map f (take i xs) ++ drop i xs → set ys i (f (get_or xs i d)) ≡ map f (take (i + 1) xs) ++ drop (i + 1) xs
renamed_more f xs ys i d h e = grind (arith, common_steps, drop_more, set_at, length-map, length-take-le, map_more, append_assoc)

pub renamed_all : {X : Type 0} (f : X → X) (xs : List X) (i : ℕ) → length xs ≤ i → map f (take i xs) ++ drop i xs ≡ map f xs
renamed_all f xs i h = simp (take_all i xs h, drop_all i xs h, append-nil)

-- one renaming after another
option_map-map : {A B C : Type 0} (h : B → C) (i : A → B) (o : Option A) → option_map h (option_map i o) ≡ option_map (λ x. h (i x)) o
option_map-map h i x = search rules

pub renamed_twice : (f h : ℕ → ℕ) (ps : List OpenTables) → map (renamed_process h) (map (renamed_process f) ps) ≡ map (renamed_process (λ i. h (f i))) ps
renamed_twice f h ps = simp (map-map, option_map-map)

unwrap_map : {A B : Type 0} (h : A → B) (d : A) (o : Option A) → unwrap_or (option_map h o) (h d) ≡ h (unwrap_or o d)
unwrap_map h d x = search rules

-- the tables of a process, renamed
pub process_at-renamed : (f : ℕ → ℕ) (ps : List OpenTables) (p : ℕ) → process_at (map (renamed_process f) ps) p ≡ renamed_process f (process_at ps p)
process_at-renamed f ps p = ap (λ o. unwrap_or o nobody) (slice_get-map (renamed_process f) ps p) ∙ unwrap_map (renamed_process f) nobody (slice_get ps p)

abbrev pub held_by : ℕ → OpenTables → Option Descriptor
held_by d t = unwrap_or (slice_get t.descriptors d) None

abbrev pub slot_by : ℕ → OpenTables → Option Slot
slot_by s t = unwrap_or (slice_get t.slots s) None

-- tables with something else in a descriptor, and in a slot
abbrev pub with_held : OpenTables → ℕ → Option Descriptor → OpenTables
with_held t d x = record t { descriptors = set t.descriptors d x }

abbrev pub with_slot_held : OpenTables → ℕ → Option Slot → OpenTables
with_slot_held t s x = record t { slots = set t.slots s x }

pub held-renamed : (f : ℕ → ℕ) (t : OpenTables) (d : ℕ) → held_by d (renamed_process f t) ≡ option_map (renamed_descriptor f) (held_by d t)
held-renamed f t d = ap (λ o. unwrap_or o None) (slice_get-map (option_map (renamed_descriptor f)) t.descriptors d) ∙ unwrap_map (option_map (renamed_descriptor f)) None (slice_get t.descriptors d)

pub slot_held-renamed : (f : ℕ → ℕ) (t : OpenTables) (s : ℕ) → slot_by s (renamed_process f t) ≡ option_map (renamed_slot f) (slot_by s t)
slot_held-renamed f t s = ap (λ o. unwrap_or o None) (slice_get-map (option_map (renamed_slot f)) t.slots s) ∙ unwrap_map (option_map (renamed_slot f)) None (slice_get t.slots s)

pub descriptor_of-renamed : (f : ℕ → ℕ) (ps : List OpenTables) (p d : ℕ) → descriptor_of (map (renamed_process f) ps) p d ≡ option_map (renamed_descriptor f) (descriptor_of ps p d)
descriptor_of-renamed f ps p d = ap (held_by d) (process_at-renamed f ps p) ∙ held-renamed f (process_at ps p) d

pub slot_of-renamed : (f : ℕ → ℕ) (ps : List OpenTables) (p s : ℕ) → slot_of (map (renamed_process f) ps) p s ≡ option_map (renamed_slot f) (slot_of ps p s)
slot_of-renamed f ps p s = ap (slot_by s) (process_at-renamed f ps p) ∙ slot_held-renamed f (process_at ps p) s

pub with_held-renamed : (f : ℕ → ℕ) (t : OpenTables) (d : ℕ) (y : Option Descriptor) → with_held (renamed_process f t) d (option_map (renamed_descriptor f) y) ≡ renamed_process f (with_held t d y)
with_held-renamed f t d y = ap (λ ds. tables ds (map (option_map (renamed_slot f)) t.slots)) (sym (map-set (option_map (renamed_descriptor f)) t.descriptors d y))

pub with_slot_held-renamed : (f : ℕ → ℕ) (t : OpenTables) (s : ℕ) (y : Option Slot) → with_slot_held (renamed_process f t) s (option_map (renamed_slot f) y) ≡ renamed_process f (with_slot_held t s y)
with_slot_held-renamed f t s y = ap (tables (map (option_map (renamed_descriptor f)) t.descriptors)) (sym (map-set (option_map (renamed_slot f)) t.slots s y))

-- a test of what elements are mapped to
list_any-map : {A B : Type 0} (q : B → Bool) (h : A → B) (xs : List A) → list_any q (map h xs) ≡ list_any (λ x. q (h x)) xs
list_any-map q h [] = refl
list_any-map q h (x ∷ xs) = rw (list_any-map q h xs) refl

prefix-map : {A B : Type 0} (q : B → Bool) (h : A → B) (xs : List A) → position_or_len q (map h xs) ≡ position_or_len (λ x. q (h x)) xs
prefix-map q h [] = refl
prefix-map q h (x ∷ xs) = rw (prefix-map q h xs) refl

pub position-map : {A B : Type 0} (q : B → Bool) (h : A → B) (xs : List A) → position q (map h xs) ≡ position (λ x. q (h x)) xs
position-map q h xs = rw (prefix-map q h xs, length-map xs h) refl

none_is_none : {A B : Type 0} (h : A → B) (o : Option A) → is_none (option_map h o) ≡ is_none o
none_is_none h x = search rules

pub free-renamed : {A : Type 0} (h : A → A) (xs : List (Option A)) → position is_none (map (option_map h) xs) ≡ position is_none xs
free-renamed h xs = simp (position-map, none_is_none)

-- a renaming keeps places apart
pub same_test : (f g : ℕ → ℕ) → IsPermutation f g → (a b : ℕ) → (f a == f b) ≡ (a == b)
same_test f g h a b = search rules

slot_refers-renamed : (f g : ℕ → ℕ) → IsPermutation f g → (i : ℕ) (o : Option Slot) → slot_refers (f i) (option_map (renamed_slot f) o) ≡ slot_refers i o
slot_refers-renamed f g h i x = search rules

descriptor_refers-renamed : (f g : ℕ → ℕ) → IsPermutation f g → (i : ℕ) (o : Option Descriptor) → descriptor_refers (f i) (option_map (renamed_descriptor f) o) ≡ descriptor_refers i o
descriptor_refers-renamed f g h i x = search rules

pub slot_for-renamed : (f g : ℕ → ℕ) → IsPermutation f g → (i : ℕ) (t : OpenTables) → position (slot_refers (f i)) (renamed_process f t).slots ≡ position (slot_refers i) t.slots
slot_for-renamed f g h i t = simp (position-map, slot_refers-renamed f g h)

pub is_referred-renamed : (f g : ℕ → ℕ) → IsPermutation f g → (ps : List OpenTables) (i : ℕ) → is_referred (map (renamed_process f) ps) (f i) ≡ is_referred ps i
is_referred-renamed f g h ps i = simp (list_any-map, descriptor_refers-renamed f g h, slot_refers-renamed f g h)

-- maps that agree on each element by the places to which it refers
pub map_where : {A B : Type 0} (refers : ℕ → A → Bool) (P : ℕ → Type 0) (u v : A → B) → ((x : A) → ((n : ℕ) → refers n x ≡ true → P n) → u x ≡ v x)
    → (xs : List A) → ((n : ℕ) → list_any (refers n) xs ≡ true → P n) → map u xs ≡ map v xs
map_where refers P u v same [] each = refl
map_where refers P u v same (x ∷ xs) each =
    rw (
      same x (λ n e. each n (or_left (refers n x) (list_any (refers n) xs) e)),
      map_where refers P u v same xs (λ n e. each n (or_right (refers n x) (list_any (refers n) xs) e)),
    ) refl

descriptor_where : (f h : ℕ → ℕ) (o : Option Descriptor) → ((n : ℕ) → descriptor_refers n o ≡ true → h n ≡ f n) → option_map (renamed_descriptor f) o ≡ option_map (renamed_descriptor h) o
descriptor_where f h x each = search rules

slot_where : (f h : ℕ → ℕ) (o : Option Slot) → ((n : ℕ) → slot_refers n o ≡ true → h n ≡ f n) → option_map (renamed_slot f) o ≡ option_map (renamed_slot h) o
slot_where f h x each = search rules

pub process_where : (f h : ℕ → ℕ) (p : OpenTables) → ((n : ℕ) → process_refers n p ≡ true → h n ≡ f n) → renamed_process f p ≡ renamed_process h p
process_where f h p each = simp (
  map_where descriptor_refers (λ n. h n ≡ f n) _ _ (descriptor_where f h) p.descriptors (λ n e. each n (or_left _ _ e)),
  map_where slot_refers (λ n. h n ≡ f n) _ _ (slot_where f h) p.slots (λ n e. each n (or_right (list_any (descriptor_refers n) p.descriptors) _ e)),
)

map_same : {A : Type 0} (h : A → A) → ((x : A) → h x ≡ x) → (xs : List A) → map h xs ≡ xs
map_same h same [] = refl
map_same h same (x ∷ xs) = rw (same x, map_same h same xs) refl

pub process_id : (p : OpenTables) → renamed_process (λ i. i) p ≡ p
process_id p = simp (map_same (option_map (renamed_descriptor (λ i. i))) option_map_id, map_same (option_map (renamed_slot (λ i. i))) option_map_id)

-- where each place that is referred to stays, the tables do
pub processes_stay : (f : ℕ → ℕ) (ps : List OpenTables) → ((n : ℕ) → is_referred ps n ≡ true → f n ≡ n) → map (renamed_process f) ps ≡ ps
processes_stay f ps each = map_where process_refers (λ n. n ≡ f n) _ _ (process_where f (λ n. n)) ps (λ n e. sym (each n e)) ∙ map_same (renamed_process (λ n. n)) process_id ps
