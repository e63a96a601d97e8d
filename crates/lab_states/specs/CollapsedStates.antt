-- States of processes without the parts of their outputs that others share.
use Rattle.std.specs.Prelude.{◌≡◌, ◌<◌, ◌⊎◌, ℕ, List, [], ◌∷◌, ◌++◌, get_or, length}
use Rattle.lab_sched.specs.declared.process.Process.{Process as Kept}
use Rattle.lab_sched.specs.Worlds.{Process, machine_of}
use Rattle.lab_sched.specs.Held.{process_view}
use Rattle.lab_sched.specs.Outputs.{with_output, kept_with_output}
use Rattle.lab_states.specs.declared.collapsed_states.CollapsedState.{CollapsedState}

-- a process that has written these bytes before its own output
abbrev pub behind : List ℕ → Process → Process
behind o s = with_output s (o ++ (machine_of s).output)

-- the same of a process that is kept
abbrev pub kept_behind : List ℕ → Kept → Kept
kept_behind o k = kept_with_output k (o ++ (machine_of (process_view k)).output)

-- the process of a state: its output is one of some outputs, and what stands behind that
abbrev pub whole_of : List (List ℕ) → CollapsedState → Kept
whole_of os s = kept_behind (get_or os s.before []) s.process

-- the processes in states that are kept, and the outputs that they share
pub record Sharing : Type 0 where
  pub processes : List Kept
  pub outputs : List (List ℕ)

-- a state's output is one of some outputs, and what stands behind that
abbrev pub IsWithin : List (List ℕ) → CollapsedState → Type 0
IsWithin os s = s.before < length os

-- the same list, or one with this element more
abbrev pub IsSameOrMore : {A : Type 0} → List A → List A → A → Type 0
IsSameOrMore xs ys x = (ys ≡ xs) ⊎ (ys ≡ xs ++ x ∷ [])

-- a process whose output is left out
abbrev pub silent : Process → Process
silent s = with_output s []

-- processes that are the same but for their outputs
abbrev pub IsButForOutput : Process → Process → Type 0
IsButForOutput s t = silent s ≡ silent t
