-- Whole lines, and the last line of a text.
use Rattle.std.proofs.Common.{ℕ, zero, suc, ◌≡◌, ◌≢◌, ◌<◌, ◌==◌, ◌/◌, ◌%◌, ◌&&◌, not, Bool, true, false, List, [], ◌∷◌, ◌++◌, refl, subst, sym, append_assoc, cond, arith}
use Rattle.std.specs.List.{list_all}
use Rattle.std.specs.Fmt.{decimal, digits, digits_onto, digit_glyph}
use Rattle.std.proofs.lemmas.Bool.Decides.{nat_tests}
use Rattle.lab_texts.specs.Rows.{texts_below}
use Rattle.lab_questions.specs.Lines.{AreLines}

-- no line feed is among these bytes
abbrev pub HasNoFeed : List ℕ → Type 0
HasNoFeed [] = Unit {0}
HasNoFeed (c ∷ cs) = (c ≢ 10) × HasNoFeed cs

-- one line, with its line feed
abbrev pub IsLine : List ℕ → Type 0
IsLine [] = ⊥
IsLine (c ∷ []) = c ≡ 10
IsLine (c ∷ d ∷ rest) = (c ≢ 10) × IsLine (d ∷ rest)

pub lines-append : (xs ys : List ℕ) → AreLines xs → AreLines ys → AreLines (xs ++ ys)
lines-append [] ys a b = b
lines-append (c ∷ []) [] a b = a
lines-append (c ∷ []) (d ∷ ys) a b = b
lines-append (c ∷ d ∷ rest) ys a b = lines-append (d ∷ rest) ys a b

pub lines-feed : (xs : List ℕ) → AreLines (xs ++ 10 ∷ [])
lines-feed [] = refl
lines-feed (c ∷ []) = refl
lines-feed (c ∷ d ∷ rest) = lines-feed (d ∷ rest)

-- more text with a line feed at its end
pub lines-onto : (xs ys : List ℕ) → AreLines (xs ++ (ys ++ 10 ∷ []))
lines-onto xs ys = subst AreLines (append_assoc xs ys (10 ∷ [])) (lines-feed (xs ++ ys))

pub lines-below : (n : ℕ) (text : ℕ → List ℕ) → ((i : ℕ) → AreLines (text i)) → AreLines (texts_below n text)
unfolding texts_below
lines-below zero text each = tt
lines-below (suc n) text each = lines-append (texts_below n text) (text n) (lines-below n text each) (each n)

lines_tail : (c : ℕ) (cs : List ℕ) → AreLines (c ∷ cs) → AreLines cs
lines_tail c [] h = tt
lines_tail c (d ∷ rest) h = h

-- a line doesn't begin with whole lines
not_within : (c : ℕ) (cs line : List ℕ) → AreLines (c ∷ cs) → IsLine line → IsLine ((c ∷ cs) ++ line) → ⊥
not_within c [] [] h one all = one
not_within c [] (d ∷ rest) h one all = all.0 h
not_within c (d ∷ cs) line h one all = not_within d cs line h one all.1

-- the last line of a text is one
pub same_last : (xs ys a b : List ℕ) → AreLines xs → AreLines ys → IsLine a → IsLine b → xs ++ a ≡ ys ++ b → a ≡ b
same_last [] [] a b h k one other same = same
same_last [] (y ∷ ys) a b h k one other same = absurd (not_within y ys b k other (subst IsLine same one))
same_last (x ∷ xs) [] a b h k one other same = absurd (not_within x xs a h one (subst IsLine (sym same) other))
same_last (x ∷ xs) (y ∷ ys) a b h k one other same =
    let rest : xs ++ a ≡ ys ++ b = cc in
    same_last xs ys a b (lines_tail x xs h) (lines_tail y ys k) one other rest

pub line-onto : (front line : List ℕ) → HasNoFeed front → IsLine line → IsLine (front ++ line)
line-onto [] line h one = one
line-onto (c ∷ []) [] h one = absurd one
line-onto (c ∷ []) (d ∷ rest) h one = (h.0, one)
line-onto (c ∷ d ∷ cs) line h one = (h.0, line-onto (d ∷ cs) line h.1 one)

-- the same by a test, for a text as it's written
pub no_feed_from : (cs : List ℕ) → list_all (λ c. not (c == 10)) cs ≡ true → HasNoFeed cs
no_feed_from [] h = tt
no_feed_from (c ∷ cs) h = by (c == 10) refl (no_feed_from cs) h
  where
    by : (b : Bool) → (c == 10) ≡ b → (list_all (λ c. not (c == 10)) cs ≡ true → HasNoFeed cs)
        → (not b && list_all (λ c. not (c == 10)) cs) ≡ true → HasNoFeed (c ∷ cs)
    by true is later all = absurd (cc)
    by false is later all = (grind (arith, nat_tests), later all)

pub no_feed-append : (xs ys : List ℕ) → HasNoFeed xs → HasNoFeed ys → HasNoFeed (xs ++ ys)
no_feed-append [] ys h k = k
no_feed-append (x ∷ xs) ys h k = (h.0, no_feed-append xs ys h.1 k)

glyph_no_feed : (d : ℕ) → digit_glyph false d ≢ 10
glyph_no_feed d = grind (arith, nat_tests)

-- what holds of no bytes, and with a digit before those of which it holds, holds of a number
module _ (P : List ℕ → Type 0) (more : (d : ℕ) (after : List ℕ) → d < 10 → P after → P (digit_glyph false d ∷ after)) where
  either : (b : Bool) (xs ys : List ℕ) → P xs → P ys → P (cond b xs ys)
  either true xs ys h k = h
  either false xs ys h k = k

  onto : (k n : ℕ) (after : List ℕ) → P after → P (digits_onto k 10 false n after)
  onto zero n after h = h
  onto (suc k) n after h =
      let here : P (digit_glyph false (n % 10) ∷ after) = more (n % 10) after (omega arith) h in
      either (n / 10 == 0) _ _ here (onto k (n / 10) (digit_glyph false (n % 10) ∷ after) here)

  pub of_decimal : P [] → (n : ℕ) → P (decimal n)
  unfolding digits
  of_decimal none n = onto 64 n [] none

-- a number has no line feed in it
pub decimal_no_feed : (n : ℕ) → HasNoFeed (decimal n)
decimal_no_feed n = of_decimal HasNoFeed (λ d after small h. (glyph_no_feed d, h)) tt n
