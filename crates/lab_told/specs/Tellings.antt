-- A run that is told step by step.
use Rattle.std.specs.Prelude.{◌≡◌, ◌<◌, ◌≤◌, ℕ, Bool, is_some, List, [], ◌∷◌, ◌++◌, length, slice_index_or}
use Rattle.lab_sched.specs.Schedules.{block}
use Rattle.lab_sched.specs.Worlds.{WorldState, step}
use Rattle.lab_sched.specs.declared.schedule.Block.{Block}
use Rattle.lab_told.specs.Scenes.{Scene, told, next, next_tally, scene_after}
use Rattle.lab_told.specs.Tallies.{account_of}
use Rattle.lab_told.specs.declared.telling.Taken.{Taken}
use Rattle.lab_told.specs.declared.told.Told.TheVariants.{Nothing}

-- each block is of a process that is there
abbrev pub AreThere : WorldState → List Block → Type 0
AreThere w bs = (i : ℕ) → i < length bs → (slice_index_or bs i (block 0 0)).pid < length w.processes

-- whether process p waits before the next step of a scene
abbrev pub waits_at : Scene → ℕ → Bool
waits_at s p = is_some (account_of s.tally p).since

-- the next step of a scene was taken, and this is told of it; one without effect may stand for several
pub record IsNext (s : Scene) (taken : Taken) : Type 0 where
  pub number : taken.number ≡ s.number
  pub world : taken.world.now ≡ step s.world taken.pid
  pub tally : taken.tally.now ≡ next_tally s taken.pid
  pub waited : taken.waited ≡ waits_at s taken.pid
  pub told : taken.told.now ≡ told s taken.pid
  pub some : 1 ≤ taken.count
  pub other : (taken.told.now ≡ Nothing → ⊥) → taken.count ≡ 1

module _ {O : Type 0} (Tells : Scene → ℕ → O → O → Type 0) where
  -- each of these steps was told, from the first to the second
  abbrev pub TellsAll : Scene → List ℕ → O → O → Type 0
  TellsAll s [] a b = b ≡ a
  TellsAll s (p ∷ ps) a c = (b : O) × Tells s p a b × TellsAll (next s p) ps b c

-- the telling of these steps broke off at one of them; those before it were told
pub record BreaksOff {O E : Type 0} (Tells : Scene → ℕ → O → O → Type 0) (Fails : Scene → ℕ → O → O → E → Type 0) (s : Scene) (ps : List ℕ) (old new : O) (e : E) : Type 0 where
  pub before : List ℕ
  pub pid : ℕ
  pub behind : List ℕ
  pub steps : ps ≡ before ++ (pid ∷ behind)
  pub held : O
  pub told : TellsAll Tells s before old held
  pub fault : Fails (scene_after s before) pid held new e
