-- What is true of every session of the debugger.
use Rattle.std.specs.Prelude.{◌≡◌, ◌≤◌, ℕ, List, [], Option, IfOk, length}
use Rattle.lab_sources.specs.declared.source.Listing.{Listing}
use Rattle.lab_sched.specs.Worlds.{WorldState, run}
use Rattle.lab_session.specs.Sessions.{SessionState, session_from, with_steps, after_steps, effective, back}
use Rattle.lab_debug.specs.Effects.{session}

-- the steps that a session keeps lead from its start to its world
abbrev pub StepsLead : SessionState → Type 0
StepsLead s = s.world ≡ run s.start s.steps

-- so they do before the first line of a script
abbrev pub StepsLeadFirst : Type 0
StepsLeadFirst = (listings : List (Option Listing)) (help : List ℕ) (w : WorldState) → StepsLead (session_from listings help w)

-- and after the last one of any script, if they did before it
abbrev pub StepsLeadOn : Type 0
StepsLeadOn = (s : SessionState) (bytes : List ℕ) → StepsLead s → IfOk (session s bytes).end StepsLead

-- after any steps, going back by as many of them as have an effect leads to the session before them; of its own steps those with an effect are kept
abbrev pub BackUndoes : Type 0
BackUndoes =
    (s : SessionState) (ps : List ℕ) → StepsLead s
    → back (length (effective s.world ps)) (after_steps s ps) ≡ with_steps s (effective s.start s.steps) s.world

-- going back by more steps than had an effect leads to the start
abbrev pub BackToTheStart : Type 0
BackToTheStart = (s : SessionState) (n : ℕ) → length (effective s.start s.steps) ≤ n → back n s ≡ with_steps s [] s.start
