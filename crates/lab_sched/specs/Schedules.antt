-- Schedules, as lists of blocks, and the steps that they stand for.
use Rattle.std.specs.Prelude.{ℕ, ◌+◌, ◌<◌, ◌≤◌, ◌==◌, ◌≢◌, if◌then◌else◌, List, [], ◌∷◌, replicate}
use Rattle.std.specs.List.{AllByRecursion, flat_map, sum_by}
use Rattle.lab_sched.specs.declared.schedule.Block.{Block}
use Rattle.ipc_kernel.specs.Limits.{process_max}

-- the greatest number of steps of a schedule
abbrev pub most_steps : ℕ
most_steps = 999_999_999

-- n steps of a process
abbrev pub block : ℕ → ℕ → Block
block pid n = record { pid = pid; count = n }

-- the process of each step, in order
unfoldable pub steps_of : List Block → List ℕ
steps_of blocks = flat_map (λ b. replicate b.count b.pid) blocks

-- how many steps
abbrev pub total_of : List Block → ℕ
total_of blocks = sum_by (λ b. b.count) blocks

-- a block that comes before a schedule: one block with the schedule's first, where that has the same process
abbrev pub before : Block → List Block → List Block
before b [] = b ∷ []
before b (c ∷ rest) = if b.pid == c.pid then block b.pid (b.count + c.count) ∷ rest else b ∷ (c ∷ rest)

-- blocks in a row as one schedule: neighbours of the same process are joined
unfoldable pub joined_blocks : List Block → List Block
joined_blocks [] = []
joined_blocks (b ∷ rest) = before b (joined_blocks rest)

-- a process number and at least one step
pub record IsBlock (b : Block) : Type 0 where
  pub process : b.pid < process_max
  pub some : 1 ≤ b.count

-- neighbours have different processes
abbrev pub AreApart : List Block → Type 0
AreApart [] = Unit {0}
AreApart (b ∷ []) = Unit {0}
AreApart (b ∷ c ∷ rest) = (b.pid ≢ c.pid) × AreApart (c ∷ rest)

-- the blocks of a schedule
pub record IsSchedule (blocks : List Block) : Type 0 where
  pub valid : AllByRecursion IsBlock blocks
  pub apart : AreApart blocks
  pub within : total_of blocks ≤ most_steps
