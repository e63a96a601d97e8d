-- Lines behind those before them, and what is made of one line more.
use Rattle.std.proofs.Common.{◌≡◌, ℕ, suc, ◌+◌, ◌<◌, ◌≤◌, List, [], ◌∷◌, ◌++◌, length, map, take, get_or, refl, ap, sym, ◌∙◌, append_assoc, append-nil, rules, arith}
use Rattle.std.specs.Prelude.{Result, Ok, Err}
use Rattle.std.specs.List.{flat_map}
use Rattle.std.proofs.lemmas.List.{take_more, map-append, length-map, length-take-le}
use Rattle.std.proofs.lemmas.Grind.{flat_map-append, common_steps}
use Rattle.lc3_table.specs.Statements.{Line, Operand, ◌>>=◌}
use Rattle.lc3_asm.specs.Texts.{LineWords, At, lines_behind, with_earlier, label_at, labels, words_at, all_ok}
use Rattle.lc3_asm.specs.Addresses.{addresses}
use Rattle.lc3_asm.specs.Views.{seen_line}
use Rattle.lc3_asm.specs.declared.line.Line.{Line as Read}

pub behind-append : (before ls rest : List (Line Operand)) → lines_behind before (ls ++ rest) ≡ lines_behind before ls ++ lines_behind (before ++ ls) rest
behind-append before [] rest = ap (λ u. lines_behind u rest) (sym (append-nil before))
behind-append before (l ∷ ls) rest = search (rules, (behind-append (before ++ l ∷ []) ls rest ∙ ap (λ u. lines_behind (before ++ l ∷ []) ls ++ lines_behind u rest) (append_assoc before (l ∷ []) ls)))

pub length-behind : (before ls : List (Line Operand)) → length (lines_behind before ls) ≡ length ls
length-behind before [] = refl
length-behind before (l ∷ ls) = ap suc (length-behind (before ++ l ∷ []) ls)

pub length_addresses : (places : List ℕ) (ls : List (Line Operand)) → places ≡ addresses ls → length places ≡ length ls
length_addresses places ls e = ap length e ∙ length-map (with_earlier ls) _ ∙ length-behind [] ls

-- the labels of a line, behind those before it and before those behind it
pub labels-split : (before after : List (Line Operand)) (l : Line Operand)
    → labels (before ++ l ∷ after) ≡ labels before ++ (label_at (before, l) ++ flat_map label_at (lines_behind (before ++ l ∷ []) after))
labels-split before after l = search (rules, behind-append, flat_map-append)

-- the words of these lines, which stand behind those before; or the least line that has none
abbrev pub words_behind : List (List ℕ × ℕ) → List (Line Operand) → List (Line Operand) → Result (List LineWords) At
words_behind known before ls = all_ok (map (words_at known) (lines_behind before ls))

ok-again : {A E : Type 0} (r : Result A E) → r ≡ (r >>= λ x. Ok x)
ok-again x = search rules

pub all_ok-append : {A E : Type 0} (rs ss : List (Result A E)) → all_ok (rs ++ ss) ≡ (all_ok rs >>= λ xs. (all_ok ss >>= λ ys. Ok (xs ++ ys)))
all_ok-append [] ss = ok-again (all_ok ss)
all_ok-append (Err e ∷ rs) ss = refl
all_ok-append {A = A} {E = E} (Ok x ∷ rs) ss = search (rules, (all_ok-append rs ss))

-- the lines so far with the next one
pub seen-more : (lines : List Read) (i : ℕ) (d x : Read) → i < length lines → x ≡ get_or lines i d → map seen_line (take (i + 1) lines) ≡ map seen_line (take i lines) ++ seen_line x ∷ []
seen-more lines i d x h is = grind (arith, common_steps, take_more, map-append)

pub length-seen : (lines : List Read) (i : ℕ) → i ≤ length lines → length (map seen_line (take i lines)) ≡ i
length-seen lines i h = length-map (take i lines) seen_line ∙ length-take-le i lines h
