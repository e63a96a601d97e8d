-- What steps of a process tell: a leg of a way from one world to another.
use Rattle.std.specs.Prelude.{ℕ, List, [], ◌∷◌, ◌++◌, replicate}
use Rattle.serde_json.specs.Data.{Data, string}
use Rattle.lab_sched.specs.Worlds.{WorldState}
use Rattle.lab_told.specs.Scenes.{Scene, first_scene, told, next}
use Rattle.lab_told.specs.declared.told.Event.{Event}
use Rattle.lab_told.specs.declared.told.Told.{Told}
use Rattle.lab_told.specs.declared.told.Told.TheVariants.{Nothing, Counted, Shown}
use Rattle.lab_trace.specs.Lines.{act_text}
use Rattle.lab_moments.specs.Events.{act_data}
use Rattle.lab_moments.specs.Values.{list, natural}

-- what happened in step n: the number, the address of the instruction, the words of the trace, and what the process did
unfoldable pub event_data : ℕ → Event → Data
event_data n e = list (natural n ∷ natural e.pc ∷ string (act_text e.word e.act) ∷ act_data e.act ∷ [])

-- that of step n, where it has a line in a trace
abbrev pub told_data : ℕ → Told → List Data
told_data n Nothing = []
told_data n Counted = []
told_data n (Shown e) = event_data n e ∷ []

-- what happened in steps from a scene on
unfoldable pub leg_events : Scene → List ℕ → List Data
leg_events s [] = []
leg_events s (p ∷ ps) = told_data s.number (told s p) ++ leg_events (next s p) ps

-- n steps of process p of a world: how many they are, and what happened in them, as if no step had been before
unfoldable pub leg_data : WorldState → ℕ → ℕ → Data
leg_data w p n = list (natural n ∷ list (leg_events (first_scene w) (replicate n p)) ∷ [])
