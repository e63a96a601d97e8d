-- The messages that are left in queues.
use Rattle.std.specs.Prelude.{ℕ, zero, suc, Bool, true, false, if◌then◌else◌, Option, List, [], ◌∷◌, ◌++◌, codes, flat_map}
use Rattle.ipc_objects.specs.declared.queue.Message.{Message}
use Rattle.ipc_kernel.specs.Limits.{object_places}
use Rattle.ipc_kernel.specs.declared.place.Place.{Place}
use Rattle.ipc_kernel.specs.declared.place.Place.TheVariants.{Empty, Mq, Sem}
use Rattle.ipc_kernel.specs.Kernel.{KernelState}
use Rattle.ipc_kernel.specs.Places.{place_at}
use Rattle.lab_texts.specs.Objects.{name_text, message_line}
use Rattle.lab_questions.specs.Orders.{comes_before}

-- the line of a message in a queue of this name, or of none
unfoldable pub left_line : Option (List ℕ) → Message → List ℕ
left_line name m = codes "left " ++ name_text name ++ message_line m

-- the lines of the messages in a place, in the order in which they would be received
abbrev pub left_lines : Place → List ℕ
left_lines Empty = []
left_lines (Mq name queue) = flat_map (left_line name) queue.messages
left_lines (Sem name value) = []

-- whether there is any text
abbrev pub is_text : List ℕ → Bool
is_text [] = false
is_text (c ∷ cs) = true

-- the place among others that are in the order of their lines: before the first whose lines its own
-- come before
abbrev pub put_place : Place → List Place → List Place
put_place p [] = p ∷ []
put_place p (q ∷ qs) = if comes_before (left_lines p) (left_lines q) then p ∷ q ∷ qs else q ∷ put_place p qs

-- the same, if messages are left in the place
abbrev pub put_left : Place → List Place → List Place
put_left p ps = if is_text (left_lines p) then put_place p ps else ps

-- those of the first n places in which messages are left, in the order of the bytes of their lines
unfoldable pub left_places : ℕ → KernelState → List Place
left_places zero k = []
left_places (suc n) k = put_left (place_at k.places n) (left_places n k)

-- the lines of all messages: queues in the order of the bytes of their lines
unfoldable pub left_text : KernelState → List ℕ
left_text k = flat_map left_lines (left_places object_places k)
