-- Worlds that an exploration visited, and the calls between them.
use Rattle.std.specs.Prelude.{ℕ, ◌==◌, not, Bool, true, false, if◌then◌else◌, Option, Some, None, List, [], ◌∷◌, ◌++◌, codes, length, map, slice_get, slice_index}
use Rattle.std.specs.Option.{option_map}
use Rattle.serde_json.specs.Data.{Data, boolean, string}
use Rattle.serde_json.specs.Written.{compact_text, comma_if}
use Rattle.ipc_kernel.specs.Kernel.{KernelState}
use Rattle.lc3_machine.specs.Process.{Process as Machine}
use Rattle.lab_sched.specs.Worlds.{Process, Running, Waiting, Ended, WorldState, machine_of}
use Rattle.lab_sched.specs.declared.verdict.Verdict.{Verdict}
use Rattle.lab_texts.specs.Texts.{how_text, place_text}
use Rattle.lab_told.specs.Calls.{arguments}
use Rattle.lab_trace.specs.Outcomes.{call_text}
use Rattle.lab_told.specs.Services.{service_at}
use Rattle.ipc_traps.specs.declared.service.Service.{Service}
use Rattle.lab_sched.specs.Verdicts.{verdict_word}
use Rattle.ipc_kernel.specs.Limits.{object_places}
use Rattle.ipc_kernel.specs.Places.{is_empty, place_at}
use Rattle.ipc_kernel.specs.declared.place.Place.{Place}
use Rattle.lc3_machine.specs.Process.{reg}
use Rattle.lab_told.specs.Objects.{held_place}
use Rattle.lab_told.specs.Tallies.{TallyState, new_tally}
use Rattle.lab_moments.specs.Objects.{object_data}
use Rattle.lab_moments.specs.Values.{list, natural, or_null, all_below}
use Rattle.lab_page.specs.Legs.{leg_data}
use Rattle.lab_page.specs.Runs.{outputs}
use Rattle.lab_page.specs.declared.worlds.WorldEdge.{WorldEdge}

-- the call that process p stands before, else its instruction
abbrev pub before_text : KernelState → ℕ → Machine → Option Service → List ℕ
before_text k p m None = place_text m
before_text k p m (Some s) = call_text s (arguments k p m s)

-- what process p stands before, or how it ended
abbrev pub stand_text : KernelState → ℕ → Process → List ℕ
stand_text k p (Running m) = before_text k p m (service_at m)
stand_text k p (Waiting m c) = before_text k p m (service_at m)
stand_text k p (Ended e) = how_text e.how

-- the place of the object that a call of process p is on, where it stands before one and this is on one
abbrev pub place_of_call : KernelState → ℕ → Machine → Option Service → Option ℕ
place_of_call k p m None = None
place_of_call k p m (Some s) = held_place k p s (reg m 0)

-- that of the call before which process p stands
abbrev pub place_before : KernelState → ℕ → Process → Option ℕ
place_before k p s = place_of_call k p (machine_of s) (service_at (machine_of s))

-- whether a process has ended
abbrev pub has_ended : Process → Bool
has_ended (Running m) = false
has_ended (Waiting m c) = false
has_ended (Ended e) = true

-- a process p: the address of its next instruction, the word there, whether it has ended, what it stands before, and the place of
-- the object that its call is on
unfoldable pub standing_data : KernelState → ℕ → Process → Data
standing_data k p s =
    list (natural (machine_of s).pc ∷ natural (slice_index (machine_of s).memory (machine_of s).pc) ∷ boolean (has_ended s)
    ∷ string (stand_text k p s) ∷ or_null (option_map natural (place_before k p s)) ∷ [])

-- where process p stands, if it is there
abbrev pub standing_in : KernelState → ℕ → Option Process → List Data
standing_in k p None = []
standing_in k p (Some s) = standing_data k p s ∷ []

-- where process p of a world stands
abbrev pub standing_at : WorldState → ℕ → List Data
standing_at w p = standing_in w.kernel p (slice_get w.processes p)

-- where the processes of a world stand
abbrev pub standings : WorldState → List Data
standings w = all_below (length w.processes) (standing_at w)

-- the object in a place, where there is one, without what only the steps to its world tell of it
abbrev pub object_in : WorldState → TallyState → ℕ → Place → List Data
object_in w t place o = if is_empty o then [] else object_data w t 0 place o ∷ []

-- the objects of a world in order of place, as if no step had been before
abbrev pub objects : WorldState → List Data
objects w =
    all_below object_places (λ place. object_in w (new_tally (length w.processes)) place (place_at w.kernel.places place))

-- a world to which so many calls lead: where its processes stand, the verdict on its end, where no process goes on, the number of
-- this end, what each process has written, and the objects
unfoldable pub node_data : WorldState → ℕ → Option Verdict → Option ℕ → Data
node_data w calls verdict end =
    list (natural calls ∷ list (standings w) ∷ or_null (option_map (λ v. string (verdict_word v)) verdict)
    ∷ or_null (option_map natural end) ∷ outputs w ∷ list (objects w) ∷ [])

-- an edge: the worlds that it leads from and to, by their numbers, and its process
abbrev pub edge_data : WorldEdge → Data
edge_data e = list (natural e.from ∷ natural e.to ∷ natural e.process ∷ [])

-- worlds in the order of their numbers, from 0, as JSON with commas between them, the edges between them, and what steps of
-- processes tell, as JSON with commas between them
pub record Worlds : Type 0 where
  pub json : List ℕ
  pub edges : List WorldEdge
  pub legs : List ℕ

-- the JSON of a list with a value behind it
abbrev pub listed : List ℕ → Data → List ℕ
listed json d = json ++ (comma_if (not (length json == 0)) ++ compact_text d)

-- the worlds with the next one behind them
abbrev pub with_node : Worlds → WorldState → ℕ → Option Verdict → Option ℕ → Worlds
with_node d w calls verdict end = record d { json = listed d.json (node_data w calls verdict end) }

-- the worlds with a leg more: so many steps of process p from a world
abbrev pub with_leg : Worlds → WorldState → ℕ → ℕ → Worlds
with_leg d w p steps = record d { legs = listed d.legs (leg_data w p steps) }

-- what a page holds of worlds as JSON, where they are drawn
abbrev pub worlds_json : Option Worlds → List ℕ
worlds_json None = codes "null"
worlds_json (Some d) =
    codes "[[" ++ (d.json ++ (codes "]," ++ (compact_text (list (map edge_data d.edges)) ++ (codes ",[" ++ (d.legs ++ codes "]]")))))
