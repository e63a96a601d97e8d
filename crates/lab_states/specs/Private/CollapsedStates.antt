-- States of processes without the parts of their outputs that others share.
use Rattle.std.specs.Prelude.{ℕ, ◌≡◌, false, List, All, [], ◌∷◌}
use Rattle.lab_sched.specs.Held.{process_view}
use Rattle.lab_worlds.specs.Independent.{unlinks}
use Rattle.lab_states.specs.declared.collapsed_states.CollapsedState.{CollapsedState}
use Rattle.lab_states.specs.CollapsedStates.{IsWithin}

-- no process of some states is
abbrev pub KeepAllNames : List CollapsedState → Type 0
KeepAllNames ss = All (λ s. unlinks (process_view s.process) ≡ false) ss

-- the same of each state, where the first of the outputs is empty
pub record AreWithin (os : List (List ℕ)) (ss : List CollapsedState) : Type 0 where
  pub empty : (more : List (List ℕ)) × (os ≡ [] ∷ more)
  pub each : All (IsWithin os) ss

-- two states of which one is as good as the other
pub record AreSame (s t : CollapsedState) : Type 0 where
  pub before : s.before ≡ t.before
  pub process : process_view s.process ≡ process_view t.process
