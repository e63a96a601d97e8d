-- Labels of an assembled text: their addresses, and which of them is nearest to an address.
use Rattle.std.specs.Prelude.{ℕ, ◌-◌, ◌==◌, ◌&&◌, nat_le, if◌then◌else◌, Option, Some, None, option_map, find, List, [], ◌∷◌, ◌++◌, codes, slice_get}
use Rattle.std.specs.Fmt.{decimal}
use Rattle.lc3_word.specs.Segment.{Segment}
use Rattle.lc3_table.specs.Words.{same_name}
use Rattle.lc3_asm.specs.Texts.{Program}

-- the address of the label that a word names, in either case
abbrev pub address_of : List (List ℕ × ℕ) → List ℕ → Option ℕ
address_of labels word = option_map (λ l. l.1) (find (λ l. same_name l.0 word) labels)

-- the word of an image at an address, where that is within it
abbrev pub word_at : Segment → ℕ → Option ℕ
word_at image a = if nat_le image.origin a then slice_get image.words (a - image.origin) else None

-- a label that isn't above an address, unless the other one is above the label
abbrev pub or_higher : ℕ → List ℕ × ℕ → Option (List ℕ × ℕ) → Option (List ℕ × ℕ)
or_higher a l None = if nat_le l.1 a then Some l else None
or_higher a l (Some m) = if nat_le l.1 a && nat_le m.1 l.1 then Some l else Some m

-- the label with the greatest address that isn't above this one, of several the one that is defined first
unfoldable pub highest_up_to : ℕ → List (List ℕ × ℕ) → Option (List ℕ × ℕ)
highest_up_to a [] = None
highest_up_to a (l ∷ ls) = or_higher a l (highest_up_to a ls)

-- a label where there is a word
abbrev pub where_some : Option ℕ → Option (List ℕ × ℕ) → Option (List ℕ × ℕ)
where_some None label = None
where_some (Some word) label = label

-- the nearest label of an address; an address outside the image has none
abbrev pub nearest : Program → ℕ → Option (List ℕ × ℕ)
nearest p a = where_some (word_at p.image a) (highest_up_to a p.symbols)

-- a label, and how many words behind it the address is
unfoldable pub label_text : List ℕ × ℕ → ℕ → List ℕ
label_text l a = if l.1 == a then l.0 else l.0 ++ codes "+" ++ decimal (a - l.1)
