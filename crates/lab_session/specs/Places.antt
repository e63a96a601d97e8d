-- The texts of where a process stands in its source.
use Rattle.std.specs.Prelude.{ℕ, Option, Some, None, List, [], ◌++◌, codes, slice_get, slice_index}
use Rattle.std.specs.Fmt.{decimal}
use Rattle.lc3_word.specs.Words.{hexadecimal_text}
use Rattle.lc3_asm.specs.Listings.{symbols_text}
use Rattle.lc3_machine.specs.Process.{Process as Machine}
use Rattle.lab_sched.specs.Worlds.{machine_of, WorldState}
use Rattle.lab_texts.specs.Texts.{text_of, memory_lines}
use Rattle.lab_sources.specs.Places.{label_at, content_text}
use Rattle.lab_sources.specs.declared.source.Listing.{Listing}

-- the nearest label of an address, and what stands there
abbrev pub place_text : Option Listing → ℕ → ℕ → List ℕ
place_text l a word = label_at a l ++ codes " " ++ content_text a word l ++ codes "\n"

-- where a process stands
unfoldable pub where_line : ℕ → Option Listing → Machine → List ℕ
where_line pid l m = decimal pid ++ codes " " ++ hexadecimal_text m.pc ++ codes " " ++ place_text l m.pc (slice_index m.memory m.pc)

-- where process pid stands
abbrev pub where_text : ℕ → Option Listing → WorldState → List ℕ
where_text pid l w = text_of (λ s. where_line pid l (machine_of s)) (slice_get w.processes pid)

-- a word of memory, and what it is in the source
unfoldable pub code_line : Option Listing → ℕ → ℕ → List ℕ
code_line l a word = hexadecimal_text a ++ codes " " ++ hexadecimal_text word ++ codes " " ++ place_text l a word

-- n words of process pid from address a on, and what they are in its source
abbrev pub code_text : ℕ → ℕ → ℕ → Option Listing → WorldState → List ℕ
code_text pid a n l w = text_of (λ s. memory_lines (code_line l) a n (machine_of s)) (slice_get w.processes pid)

-- the labels of a source, in the order of their definitions
abbrev pub labels_text : Option Listing → List ℕ
labels_text None = []
labels_text (Some l) = symbols_text l.source.assembled.symbols
