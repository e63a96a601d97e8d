-- What keeps a search from visiting every world.
use Rattle.std.specs.Prelude.{ℕ, ◌≡◌, ◌≤◌, ◌<◌, Bool, true, false, List, Option, Some, slice_get, slice_index}
use Rattle.lab_sched.specs.Worlds.{Process, WorldState, machine_of, run}
use Rattle.lab_sched.specs.Execution.{AreEffective}
use Rattle.lab_sched.specs.LocalRun.{AreLocal}
use Rattle.lab_worlds.specs.declared.exploration.Exploration.{Exploration}
use Rattle.lab_worlds.specs.declared.exploration.Limits.{Limits}
use Rattle.lab_worlds.specs.declared.exploration.LongRun.{LongRun}
use Rattle.lab_worlds.specs.declared.exploration.Met.{Met}
use Rattle.lab_worlds.specs.declared.exploration.Met.TheVariants.{Worlds, Steps, Memory, Refused}

-- the process takes n local steps in a row from the world on, and then stands there
pub record IsLongRun (w : WorldState) (n : ℕ) (r : LongRun) : Type 0 where
  pub before : Process
  pub after : Process
  pub there : slice_get w.processes r.pid ≡ Some before
  pub local : AreLocal n before after
  pub pc : r.pc ≡ (machine_of after).pc
  pub word : r.word ≡ slice_index (machine_of after).memory r.pc

-- it does so from a world on to which effective steps lead from the start
abbrev pub CanRunLong : WorldState → ℕ → LongRun → Type 0
CanRunLong start n r = (ps : List ℕ) × AreEffective start ps × IsLongRun (run start ps) n r

-- a search from the start that visited so many worlds met this, which its limits don't allow, or memory was refused
abbrev pub IsMet : WorldState → Limits → ℕ → Met → Type 0
IsMet start limits worlds Worlds = limits.worlds ≤ worlds
IsMet start limits worlds (Steps r) = CanRunLong start limits.steps r
IsMet start limits worlds (Memory bytes) = limits.memory < bytes
IsMet start limits worlds Refused = Unit {0}

-- an exploration that isn't complete says what it met
abbrev pub IsCutShort : WorldState → Limits → Exploration → Type 0
IsCutShort start limits e = (m : Met) × (e.met ≡ Some m) × IsMet start limits e.worlds m

-- this is that memory was refused
abbrev pub is_refusal : Option Met → Bool
is_refusal (Some Refused) = true
is_refusal _ = false

-- memory was refused on the way
abbrev pub is_refused : Exploration → Bool
is_refused e = is_refusal e.met
