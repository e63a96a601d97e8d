-- The lines of an accepted text, each with what its reading tells.
use Rattle.std.proofs.Common.{◌≡◌, ℕ, ◌+◌, ◌≤◌, Bool, List, [], ◌∷◌, ◌++◌, length, refl, ap, sym, ◌∙◌, subst, append_assoc, append-nil, None, rules, arith}
use Rattle.std.specs.Prelude.{Result, Ok, Err, if◌then◌else◌}
use Rattle.std.specs.List.{list_any}
use Rattle.lc3_table.specs.Statements.{Line, Operand, line, unless, ◌>>=◌}
use Rattle.lc3_table.specs.declared.operation.Fault.{Fault}
use Rattle.lc3_asm.specs.Texts.{LineWords, Program, at_line, lines, is_origin, is_end, label_of, labels, line_after, lines_after, lines_read, words_of_lines, place_fault, is_duplicate, address_after, program_with_words, program_of_lines, program}
use Rattle.lc3_asm.proofs.Outcomes.{then-ok, unless-ok, ok-same}
use Rattle.lc3_asm.proofs.MoreLines.{fits_from_test}
use Rattle.lc3_word.specs.Segment.{first_device}
use Rattle.std.proofs.lemmas.Grind.{common_steps}

-- a line that was read after these
pub record IsRead (before : List (Line Operand)) (l : Line Operand) : Type 0 where
  pub bytes : List ℕ
  pub read : line (list_any is_origin before) bytes ≡ Ok l
  pub placed : place_fault before l ≡ None

-- lines that were read one after another, after these
abbrev pub AreRead : List (Line Operand) → List (Line Operand) → Type 0
AreRead before [] = Unit {0}
AreRead before (l ∷ ls) = IsRead before l × AreRead (before ++ l ∷ []) ls

pub line-read : (before : List (Line Operand)) (bytes : List ℕ) (l : Line Operand) → line_after before bytes ≡ Ok l → IsRead before l
line-read before bytes l e =
    let first = then-ok (line (list_any is_origin before) bytes) (λ k. unless (place_fault before k) (Ok k)) l e in
    let second = unless-ok (place_fault before first.0) (Ok first.0) l first.2 in
    let same : first.0 ≡ l = ok-same first.0 l second.1 in
    record { bytes = bytes; read = first.1 ∙ ap Ok same; placed = ap (place_fault before) (sym same) ∙ second.0 }

-- these lines are those before and others that were read
abbrev Goes : List (Line Operand) → List (Line Operand) → Type 0
Goes before ls = (ms : List (Line Operand)) × (ls ≡ before ++ ms) × AreRead before ms

goes-end : (before : List (Line Operand)) (bs : List (List ℕ)) (ls : List (Line Operand)) (l : Line Operand) (b : Bool) → IsRead before l
    → (lines_after (before ++ l ∷ []) bs ≡ Ok ls → Goes (before ++ l ∷ []) ls)
    → (if b then Ok (before ++ l ∷ []) else lines_after (before ++ l ∷ []) bs) ≡ Ok ls → Goes before ls
goes-end before bs ls l x read rest h = grind (arith, common_steps, ok-same)

goes-line : (before : List (Line Operand)) (bs : List (List ℕ)) (ls : List (Line Operand)) (b : List ℕ) (r : Result (Line Operand) Fault) → line_after before b ≡ r
    → ((l : Line Operand) → lines_after (before ++ l ∷ []) bs ≡ Ok ls → Goes (before ++ l ∷ []) ls)
    → (at_line (length before + 1) r >>= λ l. if is_end l then Ok (before ++ l ∷ []) else lines_after (before ++ l ∷ []) bs) ≡ Ok ls → Goes before ls
goes-line before bs ls b (Err k) f rest h = cc
goes-line before bs ls b (Ok l) f rest h = goes-end before bs ls l (is_end l) (line-read before b l f) (rest l) h

goes : (before : List (Line Operand)) (bs : List (List ℕ)) (ls : List (Line Operand)) → lines_after before bs ≡ Ok ls → Goes before ls
goes before [] ls e = let same : before ≡ ls = ok-same before ls e in ([], sym same ∙ sym (append-nil before), tt)
goes before (b ∷ bs) ls e = goes-line before bs ls b (line_after before b) refl (λ l. goes (before ++ l ∷ []) bs ls) e

-- the lines of a text were read one after another
pub lines-read : (text : List ℕ) (ls : List (Line Operand)) → lines_read text ≡ Ok ls → AreRead [] ls
lines-read text ls e = let all = goes [] (lines text) ls e in subst (AreRead []) (sym all.1) all.2

pub read-at : (front before : List (Line Operand)) (l : Line Operand) (after : List (Line Operand)) → AreRead front (before ++ l ∷ after) → IsRead (front ++ before) l
read-at front [] l after r = subst (λ u. IsRead u l) (sym (append-nil front)) r.0
read-at front (k ∷ before) l after r = subst (λ u. IsRead u l) (append_assoc front (k ∷ []) before) (read-at (front ++ k ∷ []) before l after r.1)

-- a line that was read ends below the device registers
pub read-below : (before : List (Line Operand)) (l : Line Operand) → IsRead before l → address_after (before ++ l ∷ []) ≤ first_device
read-below before l r = fits_from_test (is_duplicate before (label_of l)) (address_after (before ++ l ∷ [])) r.placed

pub all-below : (front ls : List (Line Operand)) → AreRead front ls → address_after front ≤ first_device → address_after (front ++ ls) ≤ first_device
all-below front [] r h = rw (append-nil front) h
all-below front (l ∷ ls) r h = subst (λ u. address_after u ≤ first_device) (append_assoc front (l ∷ []) ls) (all-below (front ++ l ∷ []) ls r.1 (read-below front l r.0))

-- the words and the program of an accepted text with these lines
pub record Meant (p : Program) (ls : List (Line Operand)) : Type 0 where
  pub made : List LineWords
  pub words_are : words_of_lines (labels ls) ls ≡ Ok made
  pub laid : program_with_words ls made ≡ p

pub meant : (text : List ℕ) (p : Program) (ls : List (Line Operand)) → program text ≡ Ok p → lines_read text ≡ Ok ls → Meant p ls
meant text p ls e r = search rules

-- the lines of any accepted text
pub record HasLines (text : List ℕ) (p : Program) : Type 0 where
  pub lines : List (Line Operand)
  pub read : lines_read text ≡ Ok lines

pub has-lines : (text : List ℕ) (p : Program) → program text ≡ Ok p → HasLines text p
has-lines text p e = let read = then-ok (lines_read text) (λ ks. program_of_lines (length (lines text)) ks) p e in record { lines = read.0; read = read.1 }
