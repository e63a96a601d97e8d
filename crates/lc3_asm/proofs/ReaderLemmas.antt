-- One more line of a reader that goes on behind faults.
use Rattle.std.proofs.Common.{◌≡◌, ℕ, ◌+◌, ◌≤◌, Bool, true, List, [], ◌∷◌, ◌++◌, refl, None, Option, arith, rules}
use Rattle.std.specs.Prelude.{unwrap_or, ◌||◌, nat_le, if◌then◌else◌}
use Rattle.std.specs.List.{list_any}
use Rattle.std.proofs.Math.Bool.{or-false}
use Rattle.std.proofs.lemmas.Bool.Decides.{nat_tests}
use Rattle.std.proofs.lemmas.List.Folds.{list_any-append}
use Rattle.lc3_table.specs.Statements.{Line, Operand}
use Rattle.lc3_table.specs.Meaning.{size}
use Rattle.lc3_asm.specs.Texts.{origin, origin_named, is_origin, address_after, entry, label_of}
use Rattle.lc3_asm.specs.Faults.{bare_line}
use Rattle.lc3_asm.specs.Private.Readings.{AreTables}
use Rattle.lc3_asm.proofs.MoreLines.{origin-append, origin-same, sizes-append, labels-append, addresses-append}
use Rattle.lc3_word.specs.Segment.{first_device}

-- the origin with one more line
pub first-more : (started : Bool) (first : ℕ) (read ls : List (Line Operand)) (l : Line Operand) → read ≡ ls → started ≡ list_any is_origin read → first ≡ origin read
    → (if started then first else unwrap_or (origin_named l) 0) ≡ origin (ls ++ l ∷ [])
first-more started first read ls l v s f = rw (← v, s, f, origin-append read (l ∷ [])) refl

-- the tables, with one more line
pub tables-more : (symbols symbols' : List (List ℕ × ℕ)) (places places' : List ℕ) (started started' : Bool) (first first' count count' address : ℕ) (ls : List (Line Operand)) (l : Line Operand)
    → AreTables symbols places started first count ls → nat_le (address_after (ls ++ l ∷ [])) first_device ≡ true
    → address ≡ first + count → symbols' ≡ symbols ++ entry (label_of l) address → started' ≡ (started || is_origin l)
    → first' ≡ origin (ls ++ l ∷ []) → count' ≡ count + size l → places' ≡ places ++ address ∷ []
    → AreTables symbols' places' started' first' count' (ls ++ l ∷ [])
tables-more symbols symbols' places places' started started' first first' count count' address ls l k room a s t f n p = search (rules, sizes-append, labels-append, addresses-append, or-false, list_any-append, nat_tests)

no_words-address : (ls : List (Line Operand)) (l : Line Operand) → origin_named l ≡ None → size l ≡ 0 → address_after (ls ++ l ∷ []) ≡ address_after ls
no_words-address ls l named none = omega (arith, sizes-append ls l, origin-same ls l named, none)

-- a line of a label alone, or of nothing, adds no words
bare-address : (ls : List (Line Operand)) (o : Option (List ℕ)) → address_after (ls ++ bare_line o None ∷ []) ≡ address_after ls
bare-address ls x = search (rules, no_words-address)

room-test : (n : ℕ) → n ≤ first_device → nat_le n first_device ≡ true
room-test n h = grind (arith, nat_tests)

-- behind lines that have room there is room for a label alone
pub bare-room : (symbols : List (List ℕ × ℕ)) (places : List ℕ) (started : Bool) (first count : ℕ) (read ls : List (Line Operand)) (l : Line Operand) (o : Option (List ℕ))
    → AreTables symbols places started first count read → read ≡ ls → l ≡ bare_line o None → nat_le (address_after (ls ++ l ∷ [])) first_device ≡ true
bare-room symbols places started first count read ls l o k v e = search (rules, bare-address, room-test)
