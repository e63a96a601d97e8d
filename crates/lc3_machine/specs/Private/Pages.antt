-- Memory as a table of pages of 256 words.
use Rattle.std.specs.Prelude.{◌≡◌, ℕ, ◌+◌, ◌*◌, ◌<◌, ◌≤◌, nat_lt, Bool, true, false, List, All, length, take, drop, get_or, slice_index_or, slice_set, map, flat_map}
use Rattle.lc3_machine.specs.Process.{zeros}

-- the words, and for each page of 256 words whether it can be written without taking memory
pub record Store : Type 0 where
  pub words : List ℕ
  pub ready : List Bool

-- the words of a page, and whether it can be written without taking memory
pub record PageWords : Type 0 where
  pub words : List ℕ
  pub made : Bool

-- a page that isn't made
unfoldable pub absent_page : PageWords
absent_page = record { words = zeros 256; made = false }

-- the page that begins at a place among words: at 0 is the one that stands for all that aren't made
abbrev pub page_at : List ℕ → ℕ → PageWords
page_at words start = record { words = take 256 (drop start words); made = nat_lt 0 start }

-- the pages that begin at these places
abbrev pub pages_at : List ℕ → List ℕ → List PageWords
pages_at words starts = map (page_at words) starts

-- a page that is made, with the words that it had
abbrev pub page_made : PageWords → PageWords
page_made p = record { words = p.words; made = true }

-- a page with a word written
abbrev pub page_written : PageWords → ℕ → ℕ → PageWords
page_written p place word = record { words = slice_set p.words place word; made = true }

-- the words of one of some pages
abbrev pub words_in : List PageWords → ℕ → List ℕ
words_in pages page = (slice_index_or pages page absent_page).words

-- whether one of some pages is made
abbrev pub is_made_in : List PageWords → ℕ → Bool
is_made_in pages page = (slice_index_or pages page absent_page).made

-- the pages with one of them made
abbrev pub with_made : List PageWords → ℕ → List PageWords
with_made pages page = slice_set pages page (page_made (slice_index_or pages page absent_page))

-- the pages with a word written at a place of one of them
abbrev pub with_written : List PageWords → ℕ → ℕ → ℕ → List PageWords
with_written pages page place word = slice_set pages page (page_written (slice_index_or pages page absent_page) place word)

-- a page begins at a multiple of its size, and stands whole among words
pub record IsStart (words : List ℕ) (start : ℕ) : Type 0 where
  pub number : ℕ
  pub aligned : start ≡ number * 256
  pub inside : start + 256 ≤ length words

-- words begin with a page of zeros, 256 pages stand among them, and no two that are made are one
pub record ArePages (words starts : List ℕ) : Type 0 where
  pub kept : ℕ
  pub whole : length words ≡ kept * 256
  pub count : length starts ≡ 256
  pub blank : take 256 words ≡ zeros 256
  pub each : All (IsStart words) starts
  pub apart : (i j : ℕ) → i < 256 → j < 256 → 0 < get_or starts i 0 → get_or starts i 0 ≡ get_or starts j 0 → i ≡ j

-- each page has 256 words
abbrev pub AreWhole : List PageWords → Type 0
AreWhole pages = (i : ℕ) → i < length pages → length ((get_or pages i absent_page).words) ≡ 256

-- the memory that the pages make up
abbrev pub memory_of_pages : List PageWords → Store
memory_of_pages pages = record { words = flat_map (λ p. p.words) pages; ready = map (λ p. p.made) pages }
