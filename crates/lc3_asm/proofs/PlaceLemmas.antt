-- Where the words of a line stand in the image.
use Rattle.std.proofs.Common.{◌≡◌, ℕ, ◌+◌, ◌-◌, ◌≤◌, false, List, [], ◌∷◌, ◌++◌, length, refl, ap, sym, ◌∙◌, arith, append_assoc, append-nil, Some}
use Rattle.std.specs.Prelude.{Result, Ok, Err, sum_by, slice_get, nat_lt}
use Rattle.std.specs.List.{list_any}
use Rattle.std.proofs.lemmas.List.{length-append}
use Rattle.std.proofs.lemmas.List.Sums.{sum_by-cons}
use Rattle.std.proofs.lemmas.Bool.Decides.{nat_tests}
use Rattle.lc3_table.specs.Statements.{Line, Operand, ◌>>=◌}
use Rattle.lc3_table.specs.Meaning.{words, size}
use Rattle.lc3_asm.specs.Texts.{LineWords, At, at_line, words_of, words_of_lines, words_at, value, labels, address_after, origin, is_origin, lines_read}
use Rattle.lc3_asm.specs.declared.assembled.Row.{Row}
use Rattle.lc3_asm.specs.Private.Layouts.{AreLaid}
use Rattle.lc3_asm.specs.Laws.{word_at}
use Rattle.lc3_asm.proofs.Outcomes.{then-ok, at_line-ok, ok-same}
use Rattle.lc3_asm.proofs.LineLemmas.{line_fitting}
use Rattle.lc3_asm.proofs.EarlierLemmas.{words_behind}
use Rattle.lc3_asm.proofs.SizeLemmas.{words-exact}
use Rattle.lc3_word.specs.Segment.{first_device}
use Rattle.lc3_asm.proofs.ReadLemmas.{AreRead, IsRead, lines-read, all-below}

-- the words of a first line, and those of the lines after it
pub record First (known : List (List ℕ × ℕ)) (front : List (Line Operand)) (l : Line Operand) (ls : List (Line Operand)) (made : List LineWords) : Type 0 where
  pub here : List ℕ
  pub rest : List LineWords
  pub here_is : words (value known) (address_after front) l ≡ Ok here
  pub rest_is : words_behind known (front ++ l ∷ []) ls ≡ Ok rest
  pub made_is : made ≡ record { line = length front + 1; address = address_after front; words = here } ∷ rest
  pub count : length here ≡ size l

pub first-words : (known : List (List ℕ × ℕ)) (front : List (Line Operand)) (l : Line Operand) (ls : List (Line Operand)) (made : List LineWords) → IsRead front l
    → words_behind known front (l ∷ ls) ≡ Ok made → First known front l ls made
first-words known front l ls made r e =
    let here = then-ok (words_at known (front, l)) (λ m. words_behind known (front ++ l ∷ []) ls >>= λ ms. Ok (m ∷ ms)) made e in
    let rest = then-ok (words_behind known (front ++ l ∷ []) ls) (λ ms. Ok (here.0 ∷ ms)) made here.2 in
    let own = then-ok (at_line (length front + 1) (words (value known) (address_after front) l)) (λ ws. Ok (record { line = length front + 1; address = address_after front; words = ws })) here.0 here.1 in
    let words_are : words (value known) (address_after front) l ≡ Ok own.0 = at_line-ok (length front + 1) (words (value known) (address_after front) l) own.0 own.1 in
    record {
      here = own.0;
      rest = rest.0;
      here_is = words_are;
      rest_is = rest.1;
      made_is = sym (ok-same (here.0 ∷ rest.0) made rest.2) ∙ ap (λ m. m ∷ rest.0) (sym (ok-same _ here.0 own.2));
      count = words-exact (value known) (address_after front) l own.0 (line_fitting (list_any is_origin front) r.bytes l r.read) words_are;
    }

-- the words of a line among the words of all lines
pub record Found (known : List (List ℕ × ℕ)) (front before : List (Line Operand)) (l : Line Operand) (made : List LineWords) : Type 0 where
  pub earlier : List ℕ
  pub here : List ℕ
  pub later : List ℕ
  pub cut : words_of made ≡ earlier ++ (here ++ later)
  pub count : length earlier ≡ sum_by size before
  pub here_is : words (value known) (address_after (front ++ before)) l ≡ Ok here

pub found : (known : List (List ℕ × ℕ)) (front before : List (Line Operand)) (l : Line Operand) (after : List (Line Operand)) (made : List LineWords)
    → AreRead front (before ++ l ∷ after) → words_behind known front (before ++ l ∷ after) ≡ Ok made → Found known front before l made
found known front [] l after made r e =
    let first = first-words known front l after made r.0 e in
    record {
      earlier = [];
      here = first.here;
      later = words_of first.rest;
      cut = ap words_of first.made_is;
      count = refl;
      here_is = ap (λ u. words (value known) (address_after u) l) (append-nil front) ∙ first.here_is;
    }
found known front (k ∷ before) l after made r e =
    let first = first-words known front k (before ++ l ∷ after) made r.0 e in
    let more = found known (front ++ k ∷ []) before l after first.rest r.1 first.rest_is in
    record {
      earlier = first.here ++ more.earlier;
      here = more.here;
      later = more.later;
      cut = ap words_of first.made_is ∙ ap (λ u. first.here ++ u) more.cut ∙ sym (append_assoc first.here more.earlier (more.here ++ more.later));
      count = omega (arith, length-append first.here more.earlier, first.count, more.count, sum_by-cons size k before);
      here_is = ap (λ u. words (value known) (address_after u) l) (sym (append_assoc front (k ∷ []) before)) ∙ more.here_is;
    }

-- all lines together have as many words as their sizes say
pub words-count : (known : List (List ℕ × ℕ)) (front ls : List (Line Operand)) (made : List LineWords) → AreRead front ls → words_behind known front ls ≡ Ok made → length (words_of made) ≡ sum_by size ls
words-count known front [] made r e = let same : [] ≡ made = ok-same [] made e in rw (← same) refl
words-count known front (l ∷ ls) made r e =
    let first = first-words known front l ls made r.0 e in
    let more = words-count known (front ++ l ∷ []) ls first.rest r.1 first.rest_is in
    rw first.made_is (omega (arith, length-append first.here (words_of first.rest), first.count, more, sum_by-cons size l ls))

-- lines with words lie below the device registers
pub laid_below : (text : List ℕ) (ls : List (Line Operand)) (ws : List ℕ) (rs : List Row) → lines_read text ≡ Ok ls → AreLaid ws rs (words_of_lines (labels ls) ls) → origin ls + length ws ≤ first_device
laid_below text ls ws rs read laid = by (words_of_lines (labels ls) ls) refl laid
  where
    by : (r : Result (List LineWords) At) → words_of_lines (labels ls) ls ≡ r → AreLaid ws rs r → origin ls + length ws ≤ first_device
    by (Ok made) e h =
        let reads = lines-read text ls read in
        omega (arith, all-below [] ls reads (omega arith), words-count (labels ls) [] ls made reads e, ap length h.0)
    by (Err k) e h = absurd h

seam : (xs : List ℕ) (y : ℕ) (ys : List ℕ) → slice_get (xs ++ y ∷ ys) (length xs) ≡ Some y
seam [] y ys = refl
seam (x ∷ xs) y ys = seam xs y ys

-- the one word of a line, at the line's address
pub word-at : (start address : ℕ) (ws earlier later : List ℕ) (w : ℕ) → ws ≡ earlier ++ ((w ∷ []) ++ later) → address ≡ start + length earlier
    → word_at (record { origin = start; words = ws }) address ≡ Some w
word-at start address ws earlier later w cut at =
    let low : nat_lt address start ≡ false = grind (arith, nat_tests) in
    let place : address - start ≡ length earlier = omega (arith, at) in
    rw (low, place, cut) (seam earlier w later)
