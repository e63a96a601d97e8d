-- The member for the messages that are left.
use Rattle.std.specs.Prelude.{ℕ, Bool, true, false, List, [], ◌++◌, codes, map}
use Rattle.ipc_kernel.specs.Kernel.{KernelState}
use Rattle.ipc_kernel.specs.Limits.{object_places}
use Rattle.ipc_kernel.specs.Places.{queue_and_name}
use Rattle.ipc_kernel.specs.declared.place.Place.{Place}
use Rattle.lab_questions.specs.Left.{left_places}
use Rattle.lab_questions.specs.ProcessMembers.{messages_in}
use Rattle.lab_questions.specs.Values.{array_json, member, values_json}

-- the messages in a place
abbrev pub place_json : Place → List ℕ
place_json p = values_json (messages_in (queue_and_name p))

-- the member for the messages that are left, behind others, if these are told: queues in the order of the bytes of their lines
abbrev pub left_member : Bool → KernelState → List ℕ
left_member false k = []
left_member true k = codes "," ++ member (codes "left") (array_json (map place_json (left_places object_places k)))
