-- The words of one more line.
use Rattle.std.proofs.Common.{◌≡◌, ℕ, zero, suc, ◌+◌, ◌<◌, List, [], ◌∷◌, ◌++◌, length, take, drop, map, get_or, ap, sym, ◌∙◌, append_assoc, append-nil, arith, rules}
use Rattle.std.specs.Prelude.{Ok, Err}
use Rattle.std.proofs.lemmas.List.{drop_more, map-append, take-append-drop, flat_map_more}
use Rattle.lc3_table.specs.Statements.{Line, Operand, ◌>>=◌}
use Rattle.lc3_table.specs.Meaning.{words}
use Rattle.lc3_table.specs.declared.operation.Fault.{Fault}
use Rattle.lc3_asm.specs.Texts.{row, value, address_after, lines_behind, words_of_lines}
use Rattle.lc3_asm.specs.Addresses.{addresses}
use Rattle.lc3_asm.specs.Views.{seen_line}
use Rattle.lc3_asm.specs.Private.Layouts.{AreLaid}
use Rattle.lc3_asm.specs.declared.assembled.Row.{Row}
use Rattle.lc3_asm.specs.declared.line.Line.{Line as Read}
use Rattle.lc3_asm.proofs.EarlierLemmas.{behind-append, words_behind, all_ok-append, seen-more, length-seen}
use Rattle.std.proofs.lemmas.Grind.{common_steps}

-- the address of a line
address-at : (before : List (Line Operand)) (xs : List Read) (i : ℕ) → i < length xs
    → get_or (map (λ (e : List (Line Operand) × Line Operand). address_after e.0) (lines_behind before (map seen_line xs))) i 0 ≡ address_after (before ++ map seen_line (take i xs))
address-at before [] i h = absurd (omega (arith, h))
address-at before (x ∷ xs) zero h = ap address_after (sym (append-nil before))
address-at before (x ∷ xs) (suc i) h =
    address-at (before ++ seen_line x ∷ []) xs i (omega (arith, h)) ∙ ap address_after (append_assoc before (seen_line x ∷ []) (map seen_line (take i xs)))

pub address_at : (places : List ℕ) (xs : List Read) (i : ℕ) → places ≡ addresses (map seen_line xs) → i < length xs → get_or places i 0 ≡ address_after (map seen_line (take i xs))
address_at places xs i e h = ap (λ ps. get_or ps i 0) e ∙ address-at [] xs i h

words-split : (known : List (List ℕ × ℕ)) (ls : List (Line Operand)) (l : Line Operand) (after : List (Line Operand))
    → words_of_lines known (ls ++ l ∷ after) ≡ (words_of_lines known ls >>= λ xs. (words_behind known ls (l ∷ after) >>= λ ys. Ok (xs ++ ys)))
words-split known ls l after = search (rules, behind-append, map-append, all_ok-append)

-- one line more with its words, and the lines after it
laid-line : (known : List (List ℕ × ℕ)) (ls : List (Line Operand)) (l : Line Operand) (made ws : List ℕ) (rs : List Row) → Ok made ≡ words (value known) (address_after ls) l
    → AreLaid ws rs (words_of_lines known ls) → AreLaid (ws ++ made) (rs ++ row (length ls + 1) (address_after ls) (length made)) (words_of_lines known (ls ++ l ∷ []))
laid-line known ls l made ws rs e laid = grind (arith, common_steps, words-split, flat_map_more)

laid-no_line : (known : List (List ℕ × ℕ)) (ls : List (Line Operand)) (l : Line Operand) (after : List (Line Operand)) (k : Fault) (ws : List ℕ) (rs : List Row)
    → words (value known) (address_after ls) l ≡ Err k → AreLaid ws rs (words_of_lines known ls) → words_of_lines known (ls ++ l ∷ after) ≡ Err (record { line = length ls + 1; kind = k })
laid-no_line known ls l after k ws rs e laid = search (rules, words-split)

module _ (known : List (List ℕ × ℕ)) (lines : List Read) (i : ℕ) (d x : Read) (address : ℕ) (h : i < length lines) (is : x ≡ get_or lines i d) (at : address ≡ address_after (map seen_line (take i lines))) where
  number : length (map seen_line (take i lines)) + 1 ≡ i + 1
  number = ap (λ n. n + 1) (length-seen lines i (omega (arith, h)))

  pub laid-more : (made ws ws' : List ℕ) (rs rs' : List Row) → Ok made ≡ words (value known) address (seen_line x) → ws' ≡ ws ++ made → rs' ≡ rs ++ row (i + 1) address (length made)
      → AreLaid ws rs (words_of_lines known (map seen_line (take i lines))) → AreLaid ws' rs' (words_of_lines known (map seen_line (take (i + 1) lines)))
  laid-more made ws ws' rs rs' e f g laid =
      rw (f, g, at, seen-more lines i d x h is, ← number) (laid-line known (map seen_line (take i lines)) (seen_line x) made ws rs (rw at at e) laid)

  pub laid-fault : (k : Fault) (ws : List ℕ) (rs : List Row) → words (value known) address (seen_line x) ≡ Err k → AreLaid ws rs (words_of_lines known (map seen_line (take i lines)))
      → words_of_lines known (map seen_line lines) ≡ Err (record { line = i + 1; kind = k })
  laid-fault k ws rs e laid =
      let here : map seen_line lines ≡ map seen_line (take i lines) ++ seen_line x ∷ map seen_line (drop (i + 1) lines) =
      ap (map seen_line) (sym (take-append-drop i lines) ∙ ap (λ u. take i lines ++ u) (drop_more lines i d h ∙ ap (λ y. y ∷ drop (i + 1) lines) (sym is)))
      ∙ map-append seen_line (take i lines) (x ∷ drop (i + 1) lines) in
      ap (words_of_lines known) here
      ∙ laid-no_line known (map seen_line (take i lines)) (seen_line x) (map seen_line (drop (i + 1) lines)) k ws rs (rw at at e) laid
      ∙ ap (λ n. Err (record { line = n; kind = k })) number
