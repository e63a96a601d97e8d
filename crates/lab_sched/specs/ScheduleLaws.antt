-- Laws of schedules and of their texts.
use Rattle.std.specs.Prelude.{◌≡◌, ◌↔◌, ◌<◌, ◌≤◌, ◌-◌, ℕ, List, [], length, map, take, slice_index_or, Some, None, Ok, Err}
use Rattle.lab_sched.specs.declared.schedule.Block.{Block}
use Rattle.lab_sched.specs.declared.schedule.SchedFault.TheVariants.{BadBlock, TooLong}
use Rattle.lab_sched.specs.Schedules.{IsSchedule, steps_of, total_of, most_steps}
use Rattle.lab_sched.specs.ScheduleTexts.{reading, schedule_text, words, block_in}

-- a schedule's text reads back as the schedule
abbrev pub ReadsBack : Type 0
ReadsBack = (blocks : List Block) → IsSchedule blocks → reading (schedule_text blocks) ≡ Ok blocks

-- schedules of the same steps are the same
abbrev pub StepsTell : Type 0
StepsTell = (xs ys : List Block) → IsSchedule xs → IsSchedule ys → steps_of xs ≡ steps_of ys → xs ≡ ys

-- element number `at`, counted from 1, is the first that is P
pub record IsFirst (P : List ℕ → Type 0) (words : List (List ℕ)) (at : ℕ) : Type 0 where
  pub some : 1 ≤ at
  pub within : at ≤ length words
  pub here : P (slice_index_or words (at - 1) [])
  pub earlier : (k : ℕ) → k < at - 1 → ¬ P (slice_index_or words k [])

-- word number `at`, counted from 1, is the first that is no block
abbrev pub IsFirstBad : List (List ℕ) → ℕ → Type 0
IsFirstBad words at = IsFirst (λ word. block_in word ≡ None) words at

-- a bad block is named exactly where there is one, and it is the first
abbrev pub FirstBadBlock : Type 0
FirstBadBlock = (text : List ℕ) (at : ℕ) → (reading text ≡ Err (BadBlock at)) ↔ IsFirstBad (words text) at

-- block number `at`, counted from 1, is the first with which the blocks so far have more than the most steps
pub record IsFirstOver (blocks : List Block) (at : ℕ) : Type 0 where
  pub some : 1 ≤ at
  pub within : at ≤ length blocks
  pub here : most_steps < total_of (take at blocks)
  pub earlier : total_of (take (at - 1) blocks) ≤ most_steps

-- each word is a block, and with word number `at`, counted from 1, there are first more than the most steps
abbrev pub IsFirstTooLong : List (List ℕ) → ℕ → Type 0
IsFirstTooLong words at = (blocks : List Block) × (map block_in words ≡ map Some blocks) × IsFirstOver blocks at

-- a total is too large only where each word is a block
abbrev pub FirstTooLong : Type 0
FirstTooLong = (text : List ℕ) (at : ℕ) → reading text ≡ Err (TooLong at) → IsFirstTooLong (words text) at

-- a text is read as the schedule whose steps its blocks write out, one block after the other
abbrev pub ReadSteps : Type 0
ReadSteps = (text : List ℕ) (schedule : List Block) → reading text ≡ Ok schedule
    → IsSchedule schedule × ((blocks : List Block) × (map block_in (words text) ≡ map Some blocks) × (steps_of schedule ≡ steps_of blocks))
