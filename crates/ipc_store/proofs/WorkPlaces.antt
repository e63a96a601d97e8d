-- What a call works on: the place of what it has open, or where an open finds a name; and what it may leave there.
use Rattle.std.proofs.Common.{◌≡◌, ℕ, Bool, true, false, List, Option, Some, None, position, unwrap_or, refl, sym, ap, ◌∙◌, ◌⊎◌, inl, rules}
use Rattle.ipc_objects.specs.Queue.{QueueState, empty_queue}
use Rattle.ipc_kernel.specs.declared.place.Place.{Place}
use Rattle.ipc_kernel.specs.declared.place.Place.TheVariants.{Empty, Mq, Sem as SemPlace}
use Rattle.ipc_kernel.specs.declared.process.OpenTables.{OpenTables}
use Rattle.ipc_kernel.specs.declared.call.Call.{Call}
use Rattle.ipc_kernel.specs.declared.call.Call.TheVariants.{MqOpen, MqClose, MqUnlink, SemOpen, SemClose, SemUnlink, Exit}
use Rattle.ipc_kernel.specs.declared.call.Handle.{Handle}
use Rattle.ipc_kernel.specs.declared.call.Handle.TheVariants.{Mqd, Slot as Sem}
use Rattle.ipc_kernel.specs.Processes.{process_refers}
use Rattle.ipc_kernel.specs.Places.{is_empty, has_name, queue_name, semaphore_name, place_named, with_queue, with_value}
use Rattle.ipc_kernel.specs.Queues.{sizes_asked}
use Rattle.ipc_kernel.specs.Operands.{handle_of, place_of}

-- what an open finds by its name: an object, or none and an empty place, or neither
pub data Lookup : Type 0 where
  Named New Nowhere : Lookup

-- that is found in place a
abbrev pub IsFound : (Place → Option (List ℕ)) → List ℕ → List Place → ℕ → Lookup → Type 0
IsFound name_of n ps a Named = place_named name_of ps n ≡ Some a
IsFound name_of n ps a New = (place_named name_of ps n ≡ None) × (position is_empty ps ≡ Some a)
IsFound name_of n ps a Nowhere = (place_named name_of ps n ≡ None) × (position is_empty ps ≡ None)

-- what a call finds by a name, if it is an open
abbrev pub Finds : Call → List Place → ℕ → Lookup → Type 0
Finds (MqOpen name flags attr) ps a l = IsFound queue_name name ps a l
Finds (SemOpen name flags value) ps a l = IsFound semaphore_name name ps a l
Finds other ps a l = Unit {0}

-- whether a call is an open, and what it makes then
abbrev pub is_open : Call → Bool
is_open (MqOpen name flags attr) = true
is_open (SemOpen name flags value) = true
is_open other = false

abbrev pub new_object : Call → Place
new_object (MqOpen name flags attr) = Mq (Some name) (empty_queue (sizes_asked attr))
new_object (SemOpen name flags value) = SemPlace (Some name) value
new_object other = Empty

-- whether a call works on one place, or on none
abbrev pub is_local : Call → Bool
is_local (MqUnlink name) = false
is_local (SemUnlink name) = false
is_local Exit = false
is_local other = true

-- the descriptor or slot of a call
abbrev pub any_handle : Call → Option Handle
any_handle (MqClose d) = Some (Mqd d)
any_handle (SemClose s) = Some (Sem s)
any_handle other = handle_of other

-- an open descriptor or slot of a call refers to place i
abbrev pub RefersTo : Call → ℕ → OpenTables → Type 0
RefersTo c i t = (h : Handle) (n : ℕ) → any_handle c ≡ Some h → place_of t h ≡ Some n → n ≡ i

-- an open that opens nothing: it finds no object, and leaves none
abbrev pub OpensNone : Lookup → Place → Type 0
OpensNone l y = (l ≡ Named → ⊥) × (l ≡ New → is_empty y ≡ true)

-- a place to which as many refer after a call that leaves y in place i: another place, or the call has an open object, or it opens
-- none and none referred to it
abbrev pub Keeps : Call → Lookup → ℕ → OpenTables → ℕ → Place → Type 0
Keeps c l i t n y = n ≡ i → handle_of c ≡ None → (is_open c ≡ true → OpensNone l y) × (process_refers n t ≡ false)

-- another object has the name of the first
pub record IsKind (x y : Place) : Type 0 where
  pub filled : is_empty y ≡ is_empty x
  pub named : has_name y ≡ has_name x
  pub queue : queue_name y ≡ queue_name x
  pub semaphore : semaphore_name y ≡ semaphore_name x

pub kind_itself : (x : Place) → IsKind x x
kind_itself x = record { filled = refl; named = refl; queue = refl; semaphore = refl }

pub kind_queue : (q : QueueState) (x : Place) → IsKind x (with_queue q x)
kind_queue q x = search rules

pub kind_value : (v : ℕ) (x : Place) → IsKind x (with_value v x)
kind_value v x = search rules

-- what a call may leave where x was: x itself, or on an open object another state of it; or what an open makes
abbrev pub MayLeave : Call → Lookup → Place → Place → Type 0
MayLeave c l x y = (IsKind x y × (handle_of c ≡ None → y ≡ x)) ⊎ ((is_open c ≡ true) × (l ≡ New) × (y ≡ new_object c))

pub stays : (c : Call) (l : Lookup) (x : Place) → MayLeave c l x x
stays c l x = inl (kind_itself x, λ e. refl)

-- what a call finds in a kernel
pub found : (name_of : Place → Option (List ℕ)) (ps : List Place) (n : List ℕ) → (i : ℕ) × (l : Lookup) × IsFound name_of n ps i l
found name_of ps n = by (place_named name_of ps n) (position is_empty ps) refl refl
  where
    by : (x y : Option ℕ) → place_named name_of ps n ≡ x → position is_empty ps ≡ y → (i : ℕ) × (l : Lookup) × IsFound name_of n ps i l
    by (Some a) y e f = (a, Named, e)
    by None (Some a) e f = (a, New, (e, f))
    by None None e f = (0, Nowhere, (e, f))

-- the place to which a descriptor or slot refers, if it is open
pub referred : (t : OpenTables) (x : Option Handle) → (i : ℕ) × ((h : Handle) (n : ℕ) → x ≡ Some h → place_of t h ≡ Some n → n ≡ i)
referred t None = (0, λ h n e at. absurd (cc))
referred t (Some h) = by (place_of t h) refl
  where
    by : (o : Option ℕ) → place_of t h ≡ o → (i : ℕ) × ((g : Handle) (n : ℕ) → Some h ≡ Some g → place_of t g ≡ Some n → n ≡ i)
    by o e = (unwrap_or o 0, λ g n is at. let same : h ≡ g = cc in let there : o ≡ Some n = sym e ∙ ap (place_of t) same ∙ at in sym (ap (λ x. unwrap_or x 0) there))
