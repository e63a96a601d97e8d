-- The moment after a step: what stands in its process and what it did.
use Rattle.std.specs.Prelude.{ℕ, Bool, if◌then◌else◌, List, [], ◌∷◌}
use Rattle.serde_json.specs.Data.{Data}
use Rattle.lab_sched.specs.Worlds.{WorldState}
use Rattle.lab_trace.specs.Forms.{Form}
use Rattle.lab_told.specs.Tallies.{TallyState}
use Rattle.lab_told.specs.declared.told.Event.{Event}
use Rattle.lab_told.specs.declared.told.Told.{Told}
use Rattle.lab_told.specs.declared.told.Told.TheVariants.{Nothing, Counted, Shown}
use Rattle.lab_moments.specs.Values.{list, natural}
use Rattle.lab_moments.specs.States.{state_in}
use Rattle.lab_moments.specs.Events.{event_data}
use Rattle.lab_moments.specs.Between.{between_data}
use Rattle.lab_moments.specs.Pasts.{Past}

-- the moment after step n of process p, which is only counted, by the world after it
unfoldable pub counted_moment : ℕ → ℕ → WorldState → Data
counted_moment n p w = list (natural n ∷ natural p ∷ state_in w p ∷ [])

-- the moment after step n of process p, which has a line, by the world and the tally after it, and by what was kept of the steps
-- before it
unfoldable pub shown_moment : Form → ℕ → ℕ → Event → WorldState → TallyState → Past → Data
shown_moment v n p e w t h = list (natural n ∷ natural p ∷ state_in w p ∷ event_data v n p e w t h ∷ between_data h.between ∷ [])

-- the moment after step n of process p, by what is told of the step; a counted step has one in a whole page alone, and a step
-- without an effect has none
abbrev pub moment_by : Form → Bool → ℕ → ℕ → Told → WorldState → TallyState → Past → List Data
moment_by v whole n p Nothing w t h = []
moment_by v whole n p Counted w t h = if whole then counted_moment n p w ∷ [] else []
moment_by v whole n p (Shown e) w t h = shown_moment v n p e w t h ∷ []
