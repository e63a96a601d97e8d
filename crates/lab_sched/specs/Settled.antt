-- What settling a world does: it goes on until no process has an effective step that it may still take.
use Rattle.std.specs.Prelude.{ℕ, ◌≡◌, ◌<◌, ◌+◌, ◌++◌, ◌⊎◌, List, length, slice_index}
use Rattle.std.specs.Int.{bit_at}
use Rattle.lab_sched.specs.Worlds.{WorldState, nothing, step_effect_in}
use Rattle.lab_sched.specs.Execution.{IsExecution, count}
use Rattle.lab_sched.specs.Verdicts.{HasNotEndedIn}
use Rattle.lab_sched.specs.declared.stepped.Entry.{Entry}

-- a world, with the steps and the entries that led to it
pub record Report : Type 0 where
  pub world : WorldState
  pub steps : List ℕ
  pub entries : List Entry

-- the report of a world with these steps and entries
abbrev pub report : WorldState → List ℕ → List Entry → Report
report w s h = record { world = w; steps = s; entries = h }

-- the effective steps ps lead from one report to the other; they and their entries are added at the end
pub record IsAdded (r : Report) (ps : List ℕ) (q : Report) : Type 0 where
  pub told : List Entry
  pub execution : IsExecution r.world ps q.world told
  pub steps : q.steps ≡ r.steps ++ ps
  pub entries : q.entries ≡ r.entries ++ told

-- effective steps lead from one report to the other, and each process's steps are taken from what it has left
pub record IsSettled (r q : Report) (left rest : List ℕ) : Type 0 where
  pub taken : List ℕ
  pub added : IsAdded r taken q
  pub len : length rest ≡ length left
  pub counted : (p : ℕ) → p < length left → slice_index rest p + count p taken ≡ slice_index left p

-- process p has none left, or its step isn't effective, or its bit is set
abbrev pub HasStopped : WorldState → List ℕ → ℕ → ℕ → Type 0
HasStopped w left bits p = (slice_index left p ≡ 0) ⊎ (step_effect_in w p ≡ nothing) ⊎ (bit_at bits p ≡ 1)

-- the same of each process that has a number of steps left
abbrev pub HaveStopped : WorldState → List ℕ → ℕ → Type 0
HaveStopped w left bits = (p : ℕ) → p < length left → HasStopped w left bits p

-- process p is there, hasn't ended, and has some left
pub record IsShort (w : WorldState) (left : List ℕ) (p : ℕ) : Type 0 where
  pub there : p < length w.processes
  pub some : 0 < slice_index left p
  pub not_ended : HasNotEndedIn w p
