-- The steps of a schedule, one after another, as a trace goes through them.
use Rattle.std.specs.Prelude.{ℕ, ◌+◌, Bool, true, false, if◌then◌else◌, List, [], ◌∷◌, length, slice_get}
use Rattle.lab_sched.specs.Worlds.{WorldState, step}
use Rattle.lab_sched.specs.Held.{told_in}
use Rattle.lab_sched.specs.declared.stepped.Stepped.{Stepped}
use Rattle.lab_sched.specs.declared.stepped.Stepped.TheVariants.{Same}
use Rattle.lab_told.specs.Questions.{before_in}
use Rattle.lab_told.specs.Events.{told_by}
use Rattle.lab_told.specs.Tallies.{TallyState, new_tally, tally_after}
use Rattle.lab_told.specs.declared.asking.Observed.{Observed}
use Rattle.lab_told.specs.declared.told.Told.{Told}
use Rattle.lab_told.specs.declared.told.Told.TheVariants.{Nothing}

-- the number of the next step, the world before it, and the tally
pub record Scene : Type 0 where
  pub number : ℕ
  pub world : WorldState
  pub tally : TallyState

-- before step number n of a world, with this tally
abbrev pub scene_at : ℕ → WorldState → TallyState → Scene
scene_at n w t = record { number = n; world = w; tally = t }

-- before the first step
abbrev pub first_scene : WorldState → Scene
first_scene w = scene_at 1 w (new_tally (length w.processes))

-- whether a step has an effect
abbrev pub has_effect : Stepped → Bool
has_effect Same = false
has_effect other = true

-- process p before the next step of a scene
abbrev pub before_at : Scene → ℕ → Observed
before_at s p = before_in s.world.kernel p (slice_get s.world.processes p)

-- what is told of the next step, of process p
unfoldable pub told : Scene → ℕ → Told
told s p =
    if has_effect (told_in s.world p)
    then told_by (step s.world p).kernel s.tally p (before_at s p) (told_in s.world p) (slice_get (step s.world p).processes p)
    else Nothing

-- the tally after the next step, of process p
abbrev pub next_tally : Scene → ℕ → TallyState
next_tally s p = tally_after (step s.world p).kernel s.number p (told s p) s.tally

-- the scene after the next step, of process p
abbrev pub next : Scene → ℕ → Scene
next s p = scene_at (s.number + 1) (step s.world p) (next_tally s p)

-- what these steps lead to
unfoldable pub scene_after : Scene → List ℕ → Scene
scene_after s [] = s
scene_after s (p ∷ ps) = scene_after (next s p) ps
