-- The programs of a page.
use Rattle.std.specs.Prelude.{ℕ, ◌-◌, nat_lt, Bool, false, if◌then◌else◌, Option, Some, None, List, [], ◌∷◌, map, take, drop, position, slice_get, string_bytes}
use Rattle.std.specs.Option.{option_map, option_and_then}
use Rattle.std.specs.Str.{bytes_eq}
use Rattle.serde_json.specs.Data.{Data, string}
use Rattle.lc3_asm.specs.Listings.{symbols_text}
use Rattle.lc3_asm.specs.Texts.{Program}
use Rattle.lc3_asm.specs.declared.assembled.Row.{Row}
use Rattle.lab_told.specs.Services.{service_of_word}
use Rattle.ipc_traps.specs.declared.service.Service.{Service}
use Rattle.lab_moments.specs.Words.{call_names}
use Rattle.lab_moments.specs.Values.{list, natural, naturals, or_null, all_below}
use Rattle.lab_page.specs.declared.source.Source.{Source as HeldSource}

-- a source: its text, the lines that have words, the address of the first of these words, the words, and a line for each label
pub record Source : Type 0 where
  pub text : List ℕ
  pub rows : List Row
  pub origin : ℕ
  pub words : List ℕ
  pub labels : List ℕ

-- the source with this text, by what it is assembled to
abbrev pub source_of : List ℕ → Program → Source
source_of text p = record {
  text = text;
  rows = p.rows;
  origin = p.image.origin;
  words = p.image.words;
  labels = symbols_text p.symbols;
}

-- the words of a line
abbrev pub row_words : Source → Row → List ℕ
row_words s r = take r.count (drop (r.address - s.origin) s.words)

-- the call that the first of some words makes, where it makes one
abbrev pub first_call : List ℕ → Option Service
first_call words = option_and_then service_of_word (slice_get words 0)

-- a line with these words: its number, the address of the first of them, the words, and the name of the call that the first makes,
-- where it makes one
abbrev pub row_with : Row → List ℕ → Data
row_with r words = list (natural r.line ∷ natural r.address ∷ naturals words ∷ call_names (first_call words))

-- a line of a source that has words
unfoldable pub row_data : Source → Row → Data
row_data s r = row_with r (row_words s r)

-- a source: its text, the lines of it that have words, and its labels
unfoldable pub source_data : Source → Data
source_data s = list (string s.text ∷ list (map (row_data s) s.rows) ∷ string s.labels ∷ [])

-- the name of process p, where one is given
abbrev pub name_at : List (List ℕ) → ℕ → Data
name_at names p = or_null (option_map string (slice_get names p))

-- whether there is a source with this text
abbrev pub has_text : List ℕ → Option Source → Bool
has_text text None = false
has_text text (Some s) = bytes_eq s.text text

-- a source of process p where the first process whose source has the same text is this one: the number of that, if it comes before
abbrev pub source_told : ℕ → Source → Option ℕ → Data
source_told p s None = source_data s
source_told p s (Some q) = if nat_lt q p then natural q else source_data s

-- the source of process p, or the number of the first process whose source has the same text, if it comes before
abbrev pub source_behind : List (Option Source) → ℕ → Source → Data
source_behind sources p s = source_told p s (position (has_text s.text) sources)

-- the same, where there is one
abbrev pub source_at : List (Option Source) → ℕ → Data
source_at sources p = or_null (option_map (source_behind sources p) (option_and_then (λ s. s) (slice_get sources p)))

-- how process p is called, and its source
abbrev pub program_at : List (List ℕ) → List (Option Source) → ℕ → Data
program_at names sources p = list (name_at names p ∷ source_at sources p ∷ [])

-- so many processes with these names and sources
unfoldable pub programs : ℕ → List (List ℕ) → List (Option Source) → Data
programs count names sources = list (all_below count (λ p. program_at names sources p ∷ []))

-- the source that is kept as a text
abbrev pub source_shown : HeldSource → Source
source_shown s = record {
  text = string_bytes s.text;
  rows = s.rows.items;
  origin = s.origin;
  words = s.words.items;
  labels = string_bytes s.labels;
}

-- the sources that are kept as texts, each where there is one
abbrev pub sources_shown : List (Option HeldSource) → List (Option Source)
sources_shown ss = map (option_map source_shown) ss
