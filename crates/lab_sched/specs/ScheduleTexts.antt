-- The text of a schedule, and what a text is read as.
use Rattle.std.specs.Prelude.{ℕ, ◌+◌, ◌-◌, ◌==◌, ◌&&◌, ◌≡◌, nat_lt, nat_le, Bool, if◌then◌else◌, Option, Some, None, Result, Ok, Err, List, [], ◌∷◌, ◌++◌, length, take, drop, decimal, position, is_none}
use Rattle.ipc_kernel.specs.Limits.{process_max}
use Rattle.std.specs.List.{filter_map, flat_map, position_or_len}
use Rattle.lc3_word.specs.Blanks.{words_between, white_space}
use Rattle.lc3_word.specs.Numbers.{unsigned_number}
use Rattle.lab_sched.specs.declared.schedule.Block.{Block}
use Rattle.lab_sched.specs.declared.schedule.SchedFault.{SchedFault}
use Rattle.lab_sched.specs.declared.schedule.SchedFault.TheVariants.{BadBlock, TooLong, NoMemory}
use Rattle.lab_sched.specs.Schedules.{block, joined_blocks, most_steps}

-- `P*N`
unfoldable pub block_text : Block → List ℕ
block_text b = decimal b.pid ++ (42 ∷ decimal b.count)

-- the blocks, with a blank before each but the first
unfoldable pub schedule_text : List Block → List ℕ
schedule_text [] = []
schedule_text (b ∷ rest) = block_text b ++ flat_map (λ c. 32 ∷ block_text c) rest

-- whether a byte is `*`
abbrev pub is_star : ℕ → Bool
is_star c = c == 42

-- the words of a text, between blanks, tabs, carriage returns and line feeds
abbrev pub words : List ℕ → List (List ℕ)
words text = words_between white_space text

-- a number that is at least low and at most high
abbrev pub in_range : ℕ → ℕ → Option ℕ → Option ℕ
in_range low high None = None
in_range low high (Some n) = if nat_le low n && nat_le n high then Some n else None

-- decimal digits
unfoldable pub process_in : List ℕ → Option ℕ
process_in text = in_range 0 (process_max - 1) (unsigned_number 10 text)

-- decimal digits, of 1 to the most steps of a schedule
unfoldable pub count_in : List ℕ → Option ℕ
count_in text = in_range 1 most_steps (unsigned_number 10 text)

-- so many steps of a process, where both are there
abbrev pub block_from : Option ℕ → Option ℕ → Option Block
block_from (Some pid) (Some n) = Some (block pid n)
block_from (Some pid) None = None
block_from None n = None

-- a word whose first `*` stands here, or that has none
abbrev pub block_at : Option ℕ → List ℕ → Option Block
block_at None word = block_from (process_in word) (Some 1)
block_at (Some star) word = block_from (process_in (take star word)) (count_in (drop (star + 1) word))

-- `P*N`, or `P` for one step
unfoldable pub block_in : List ℕ → Option Block
block_in word = block_at (position is_star word) word

infixl 20 ◌>>=◌
-- what follows a result, unless that is a fault
abbrev pub ◌>>=◌ : {A B : Type 0} → Result A SchedFault → (A → Result B SchedFault) → Result B SchedFault
(Err e) >>= next = Err e
(Ok a) >>= next = next a

-- whether a word is no block
abbrev pub is_bad : List ℕ → Bool
is_bad word = is_none (block_in word)

-- the blocks that words write, or the fault of the first word that is none
unfoldable pub blocks_of_words : List (List ℕ) → Result (List Block) SchedFault
blocks_of_words ws =
    if nat_lt (position_or_len is_bad ws) (length ws) then Err (BadBlock (position_or_len is_bad ws + 1)) else Ok (filter_map block_in ws)

-- the number of the block with which more than the most steps are reached, where these steps come before block number `at`
unfoldable pub too_long : ℕ → ℕ → List Block → Option ℕ
too_long at total [] = None
too_long at total (b ∷ rest) = if nat_lt most_steps (total + b.count) then Some at else too_long (at + 1) (total + b.count) rest

-- the blocks, or the fault that there are too many steps with block number `at`
abbrev pub within : Option ℕ → List Block → Result (List Block) SchedFault
within None blocks = Ok blocks
within (Some at) blocks = Err (TooLong at)

-- the schedule of blocks in a row
unfoldable pub schedule_of_blocks : List Block → Result (List Block) SchedFault
schedule_of_blocks blocks = within (too_long 1 0 blocks) (joined_blocks blocks)

-- what words are read as
unfoldable pub reading_of_words : List (List ℕ) → Result (List Block) SchedFault
reading_of_words ws = blocks_of_words ws >>= schedule_of_blocks

-- what a text is read as
abbrev pub reading : List ℕ → Result (List Block) SchedFault
reading text = reading_of_words (words text)

-- want of memory says nothing of what is read; another fault is what is read
abbrev pub Fails : {A : Type 0} → SchedFault → Result A SchedFault → Type 0
Fails (BadBlock at) read = read ≡ Err (BadBlock at)
Fails (TooLong at) read = read ≡ Err (TooLong at)
Fails NoMemory read = Unit {0}
