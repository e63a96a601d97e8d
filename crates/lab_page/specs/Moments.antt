-- The moments of a run: after each step with an effect, what stands in its process and what it did.
use Rattle.std.specs.Prelude.{ℕ, Bool, List, [], ◌∷◌, ◌++◌}
use Rattle.serde_json.specs.Data.{Data}
use Rattle.lab_trace.specs.Forms.{Form}
use Rattle.lab_told.specs.Scenes.{Scene, told, next}
use Rattle.lab_told.specs.Tellings.{waits_at}
use Rattle.lab_moments.specs.Moments.{moment_by}
use Rattle.lab_moments.specs.Pasts.{Past, past_after}

-- after so many steps of process p from a scene on, of which the same is told
abbrev pub past_by : ℕ → Scene → ℕ → Past → Past
past_by count s p h = past_after count s.number p (waits_at s p) (told s p) (next s p).world (next s p).tally h

-- after the next step of a scene, of process p
abbrev pub next_past : Scene → ℕ → Past → Past
next_past s p h = past_by 1 s p h

-- after these steps
unfoldable pub past_then : Scene → List ℕ → Past → Past
past_then s [] h = h
past_then s (p ∷ ps) h = past_then (next s p) ps (next_past s p h)

-- the moment after the next step, of process p, or nothing, by what was kept of the steps before it
unfoldable pub moment : Form → Bool → Scene → Past → ℕ → List Data
moment v whole s h p = moment_by v whole s.number p (told s p) (next s p).world (next s p).tally h

-- the moments of steps
unfoldable pub moments : Form → Bool → Scene → Past → List ℕ → List Data
moments v whole s h [] = []
moments v whole s h (p ∷ ps) = moment v whole s h p ++ moments v whole (next s p) (next_past s p h) ps
