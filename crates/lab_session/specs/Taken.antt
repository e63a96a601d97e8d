-- The schedule of steps.
use Rattle.std.specs.Prelude.{ℕ, List, [], ◌∷◌, ◌++◌, codes, flat_map}
use Rattle.lab_sched.specs.declared.schedule.Block.{Block}
use Rattle.lab_sched.specs.Schedules.{block, before}
use Rattle.lab_sched.specs.ScheduleTexts.{block_text}

-- steps as blocks, one for all steps of a process in a row
unfoldable pub blocks_of : List ℕ → List Block
blocks_of [] = []
blocks_of (p ∷ ps) = before (block p 1) (blocks_of ps)

-- a block behind a blank
abbrev pub spaced_text : Block → List ℕ
spaced_text b = 32 ∷ block_text b

-- the blocks of steps, each behind a blank
abbrev pub blocks_text : List ℕ → List ℕ
blocks_text ps = flat_map spaced_text (blocks_of ps)

-- the schedule of steps
abbrev pub taken_text : List ℕ → List ℕ
taken_text ps = codes "schedule" ++ blocks_text ps ++ codes "\n"
