-- Memory as its words, and what of it can be written without taking memory.
use Rattle.std.specs.Prelude.{◌≡◌, ℕ, ◌+◌, ◌<◌, ◌/◌, ◌++◌, Bool, true, List, length, take, drop, slice_get, Some}
use Rattle.lc3_word.specs.Segment.{first_device}

-- the word at an address can be written without taking memory
unfoldable pub IsReadyAt : List Bool → ℕ → Type 0
IsReadyAt ready address = slice_get ready (address / 256) ≡ Some true

-- each word of a range lies below the device registers and can be written without taking memory
abbrev pub IsWritable : List Bool → ℕ → ℕ → Type 0
IsWritable ready at len = (k : ℕ) → k < len → (at + k < first_device) × IsReadyAt ready (at + k)

-- what was ready still is
abbrev pub StaysReady : List Bool → List Bool → Type 0
StaysReady old new = (address : ℕ) → IsReadyAt old address → IsReadyAt new address

-- memory with words written from an address on
unfoldable pub with_words : List ℕ → ℕ → List ℕ → List ℕ
with_words memory at words = take at memory ++ words ++ drop (at + length words) memory
