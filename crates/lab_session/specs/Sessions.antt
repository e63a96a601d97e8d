-- The state of a session, and the state before its last steps.
use Rattle.std.specs.Prelude.{ℕ, ◌-◌, Option, if◌then◌else◌, List, [], ◌∷◌, ◌++◌, length, take}
use Rattle.lab_sched.specs.Worlds.{WorldState, step_effect_in, step, run}
use Rattle.lab_sched.specs.Verdicts.{is_nothing}
use Rattle.lab_sched.specs.Schedules.{steps_of}
use Rattle.lab_sources.specs.declared.source.Listing.{Listing}
use Rattle.lab_session.specs.declared.marks.Mark.{Mark}
use Rattle.lab_session.specs.declared.state.Session.{Session}

-- the sources of the processes, where they were given as such, what `help` writes, the marks, the world at the start of a session, the process of each step since then, and the world now
pub record SessionState : Type 0 where
  pub listings : List (Option Listing)
  pub help : List ℕ
  pub marks : List Mark
  pub start : WorldState
  pub steps : List ℕ
  pub world : WorldState

-- a session before its first step
abbrev pub session_from : List (Option Listing) → List ℕ → WorldState → SessionState
session_from ls help w = record { listings = ls; help = help; marks = []; start = w; steps = []; world = w }

-- a session that has taken these steps, and is in this world
abbrev pub with_steps : SessionState → List ℕ → WorldState → SessionState
with_steps s ps w = record { listings = s.listings; help = s.help; marks = s.marks; start = s.start; steps = ps; world = w }

-- a session with these marks
abbrev pub with_marks : SessionState → List Mark → SessionState
with_marks s ms = record { listings = s.listings; help = s.help; marks = ms; start = s.start; steps = s.steps; world = s.world }

-- a session after further steps
abbrev pub after_steps : SessionState → List ℕ → SessionState
after_steps s ps = with_steps s (s.steps ++ ps) (run s.world ps)

-- those of some steps from a world on that have an effect
unfoldable pub effective : WorldState → List ℕ → List ℕ
effective w [] = []
effective w (p ∷ ps) =
    if is_nothing (step_effect_in w p) then effective w ps else p ∷ effective (step w p) ps

-- steps without the last n of them, or none where there are fewer
abbrev pub without_last : ℕ → List ℕ → List ℕ
without_last n ps = take (length ps - n) ps

-- the steps of a session that have an effect, without the last n of them
abbrev pub steps_before : ℕ → SessionState → List ℕ
steps_before n s = without_last n (effective s.start s.steps)

-- a session before the last n of its steps with an effect: the other ones, from its start
abbrev pub back : ℕ → SessionState → SessionState
back n s = with_steps s (steps_before n s) (run s.start (steps_before n s))

-- the state of a session, as the code keeps it
abbrev pub state_of : Session → SessionState
state_of s = record { listings = s.listings.items; help = s.help.now; marks = s.marks.items; start = s.start; steps = steps_of s.taken.items; world = s.world }
