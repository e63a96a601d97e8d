-- The warnings of one more line.
use Rattle.std.proofs.Common.{◌≡◌, ℕ, ◌+◌, ◌<◌, Bool, List, [], ◌∷◌, ◌++◌, length, take, drop, map, get_or, reverse, refl, ap, sym, ◌∙◌, append_assoc, arith, Option, Some, None, length-drop}
use Rattle.std.specs.List.{flat_map}
use Rattle.std.proofs.lemmas.List.{drop_more, drop_all, take_more, map-append, drop-drop, length-map, length-take-le}
use Rattle.lc3_table.specs.Statements.{Line, Operand, option_or}
use Rattle.lc3_asm.specs.Views.{seen_line}
use Rattle.lc3_asm.specs.declared.line.Line.{Line as Read}
use Rattle.lc3_warnings.specs.declared.flow.Flow.{Flow}
use Rattle.lc3_warnings.specs.declared.flow.Next.{Next}
use Rattle.lc3_warnings.specs.declared.texts.Warning.{Warning}
use Rattle.lc3_warnings.specs.Flows.{flow_of, last_flow, next_from}
use Rattle.lc3_warnings.specs.Around.{around}
use Rattle.lc3_asm.specs.Texts.{lines}
use Rattle.lc3_asm.specs.Faults.{Reading, reading}
use Rattle.lc3_table.specs.declared.profile.Profile.{Profile}
use Rattle.lc3_warnings.specs.Warnings.{Setting, setting_of, told, line_kinds, lines_told, after_end, is_accepted, warnings}

or-none : {A : Type 0} (o : Option A) → option_or o None ≡ o
or-none None = refl
or-none (Some x) = refl

or-more : {A : Type 0} (a b c : Option A) → option_or (option_or a b) c ≡ option_or a (option_or b c)
or-more None b c = refl
or-more (Some x) b c = refl

last-append : (ls : List (Line Operand)) (l : Line Operand) → last_flow (ls ++ l ∷ []) ≡ option_or (flow_of l) (last_flow ls)
last-append [] l = sym (or-none (flow_of l))
last-append (k ∷ ls) l = ap (λ o. option_or o (flow_of k)) (last-append ls l) ∙ or-more (flow_of l) (last_flow ls) (flow_of k)

-- what follows the first of the lines that are left
pub rest-more : (xs : List (List ℕ)) (i : ℕ) (y : List ℕ) (ys : List (List ℕ)) → drop i xs ≡ y ∷ ys → ys ≡ drop (i + 1) xs
rest-more xs i y ys e = sym (ap (drop 1) e) ∙ drop-drop 1 i xs

-- where nothing is left, nothing is left further on
pub rest-none : (xs : List (List ℕ)) (i n : ℕ) → [] ≡ drop i xs → i < n → [] ≡ drop n xs
rest-none xs i n e h =
    let none : 0 ≡ length (drop i xs) = ap length e in
    sym (drop_all n xs (omega (arith, none, length-drop i xs, h)))

pub lines-none : (s : Setting) (before : List (Line Operand)) (texts : List (List ℕ)) → lines_told s before texts [] ≡ []
lines-none s before [] = refl
lines-none s before (bytes ∷ texts) = refl

module _ (read : List Read) (i : ℕ) (d x : Read) (h : i < length read) (is : x ≡ get_or read i d) where
  front : map seen_line (take (i + 1) read) ≡ map seen_line (take i read) ++ seen_line x ∷ []
  front = ap (map seen_line) (take_more read i d h ∙ ap (λ y. take i read ++ y ∷ []) (sym is)) ∙ map-append seen_line (take i read) (x ∷ [])

  -- the last line with words, with one more line
  pub previous-more : (p q o : Option Flow) → p ≡ last_flow (map seen_line (take i read)) → o ≡ flow_of (seen_line x) → q ≡ option_or o p
      → q ≡ last_flow (map seen_line (take (i + 1) read))
  previous-more p q o a b e =
      e ∙ ap (λ u. option_or u p) b ∙ ap (λ u. option_or (flow_of (seen_line x)) u) a
      ∙ sym (ap last_flow front ∙ last-append (map seen_line (take i read)) (seen_line x))

  -- the warnings of one more line
  pub lines-more : (s : Setting) (bytes : List ℕ) (rest : List (List ℕ)) (fs gs all : List Warning) (p o : Option Flow) (n : Option Next)
      → p ≡ last_flow (map seen_line (take i read)) → o ≡ flow_of (seen_line x) → n ≡ next_from (i + 1) (map seen_line (drop (i + 1) read))
      → gs ≡ fs ++ flat_map (told (length (take i read) + 1)) (line_kinds s bytes (seen_line x) (record { previous = p; here = o; next = n }) (reverse (map seen_line (take i read))))
      → fs ++ lines_told s (map seen_line (take i read)) (bytes ∷ rest) (map seen_line (drop i read)) ≡ all
      → gs ++ lines_told s (map seen_line (take (i + 1) read)) rest (map seen_line (drop (i + 1) read)) ≡ all
  lines-more s bytes rest fs gs all p o n a b e g f =
      let here : drop i read ≡ x ∷ drop (i + 1) read = drop_more read i d h ∙ ap (λ y. y ∷ drop (i + 1) read) (sym is) in
      let before = map seen_line (take i read) in
      let behind = map seen_line (drop (i + 1) read) in
      let own = flat_map (told (length before + 1)) (line_kinds s bytes (seen_line x) (around before (seen_line x) behind) (reverse before)) in
      let count : i ≡ length before = sym (length-map (take i read) seen_line ∙ length-take-le i read (omega (arith, h))) in
      let next : n ≡ next_from (length before + 1) behind = e ∙ ap (λ k. next_from (k + 1) behind) count in
      let one : flat_map (told (length (take i read) + 1)) (line_kinds s bytes (seen_line x) (record { previous = p; here = o; next = n }) (reverse before)) ≡ own =
      rw (sym (length-map (take i read) seen_line), a, b, next) refl in
      rw (g, front) (ap (λ u. (fs ++ u) ++ lines_told s (before ++ seen_line x ∷ []) rest behind) one
      ∙ append_assoc fs own (lines_told s (before ++ seen_line x ∷ []) rest behind) ∙ rw here at f)

-- all the warnings of a text: those of its lines, and then that of the lines behind `.END`
pub all_told : (p : Profile) (text : List ℕ) (accepted : Bool) (s : Setting) (read : List Read) (r : Reading) (rest : List (List ℕ)) (fs gs : List Warning)
    → accepted ≡ is_accepted text → map seen_line read ≡ r.read → r ≡ reading text → s ≡ setting_of p accepted (lines text) r
    → fs ≡ lines_told s [] (lines text) (map seen_line read) → rest ≡ drop (length read) (lines text)
    → gs ≡ fs ++ after_end (length read) rest → gs ≡ warnings p text
all_told p text accepted s read r rest fs gs a m e t f d g =
    let count : length read ≡ length r.read = sym (length-map read seen_line) ∙ ap length m in
    rw (g, f, d, t, count, m, e, a) refl
