-- Labels that are added to others.
use Rattle.std.proofs.Common.{◌≡◌, ℕ, zero, suc, ◌+◌, ◌<◌, Bool, true, false, ◌||◌, List, [], ◌∷◌, length, take, map, get_or, slice_get, refl, ap, sym, ◌∙◌, Option, Some, None, option_map, is_some}
use Rattle.std.specs.Prelude.{bytes_eq, string_bytes, String, cond}
use Rattle.std.specs.List.{list_any}
use Rattle.std.specs.HashSet.{HashSet, contains_text}
use Rattle.std.proofs.Math.Bool.{or-true, or-false}
use Rattle.std.proofs.lemmas.List.Folds.{list_any_none, list_any_more}
use Rattle.std.proofs.lemmas.Bool.Decides.{same_from_decides}
use Rattle.std.proofs.lemmas.Slice.Eq.{bytes_eq-Decides}
use Rattle.lc3_spelling.specs.Edits.{near_edits, IsNearest}
use Rattle.lc3_warnings.specs.Labels.{bare_operations, is_near}
use Rattle.lc3_warnings.specs.Private.Names.{is_among}

-- whether something is found among what is shown of elements
pub list_any_map : {X Y : Type 0} (p : Y → Bool) (f : X → Y) (xs : List X) → list_any p (map f xs) ≡ list_any (λ x. p (f x)) xs
list_any_map p f [] = refl
list_any_map p f (x ∷ xs) = ap (λ b. p (f x) || b) (list_any_map p f xs)

-- one element more in which something may be found
pub any-more : {X Y : Type 0} (p : Y → Bool) (f : X → Y) (xs : List X) (i : ℕ) (d x : X) → i < length xs → x ≡ get_or xs i d
    → list_any p (map f (take (i + 1) xs)) ≡ (list_any p (map f (take i xs)) || p (f x))
any-more p f xs i d x h is =
    list_any_map p f (take (i + 1) xs) ∙ list_any_more (λ y. p (f y)) xs i d h
    ∙ ap (λ b. b || p (f (get_or xs i d))) (sym (list_any_map p f (take i xs)))
    ∙ ap (λ y. list_any p (map f (take i xs)) || p (f y)) (sym is)

-- what labels contain, by the words that are kept
pub among-kept : {Z : Type 0} (name : List ℕ) (ks : List (String Z)) → list_any (λ k. bytes_eq name (string_bytes k)) ks ≡ is_among (map string_bytes ks) name
among-kept name ks = sym (list_any_map (bytes_eq name) string_bytes ks)

bytes_eq-sym : (a b : List ℕ) → bytes_eq a b ≡ bytes_eq b a
bytes_eq-sym a b =
    let same = bytes_eq-Decides b a in
    same_from_decides (bytes_eq a b) (bytes_eq b a) (bytes_eq-Decides a b) (λ e. sym (same.0 e), λ e. same.1 (sym e))

cond-or : (a b : Bool) → cond a true b ≡ (b || a)
cond-or true b = sym (or-true b)
cond-or false b = sym (or-false b)

-- what labels contain with one more
pub among-more : {Z S : Type 0} (name word : List ℕ) (old new : HashSet (String Z) S) → contains_text new word ≡ cond (bytes_eq name word) true (contains_text old word)
    → is_among (map string_bytes new.keys) word ≡ (is_among (map string_bytes old.keys) word || bytes_eq word name)
among-more name word old new e =
    sym (among-kept word new.keys) ∙ e ∙ cond-or (bytes_eq name word) (contains_text old word)
    ∙ ap (λ b. b || bytes_eq name word) (among-kept word old.keys)
    ∙ ap (λ b. is_among (map string_bytes old.keys) word || b) (bytes_eq-sym name word)

some_any : {X : Type 0} (t : X → List ℕ) (w : List ℕ) (names : List X) (i least : ℕ) → option_map (λ n. near_edits w (t n)) (slice_get names i) ≡ Some (Some least)
    → list_any (λ n. is_some (near_edits w (t n))) names ≡ true
some_any t w [] i least e = absurd (cc)
some_any t w (n ∷ names) zero least e =
    let near : near_edits w (t n) ≡ Some least = cc e in
    ap (λ o. is_some o || list_any (λ m. is_some (near_edits w (t m))) names) near
some_any t w (n ∷ names) (suc i) least e = ap (λ b. is_some (near_edits w (t n)) || b) (some_any t w names i least e) ∙ or-true (is_some (near_edits w (t n)))

-- whether a nearest name is found, by the names
pub near_any : {X : Type 0} (t : X → List ℕ) (w : List ℕ) (names : List X) (found : Option ℕ) → IsNearest t w names found
    → is_some found ≡ list_any (λ n. is_some (near_edits w (t n))) names
near_any t w names None none = sym (list_any_none (λ n. is_some (near_edits w (t n))) names (λ k d h. ap is_some (none k d h)))
near_any t w names (Some i) some = sym (some_any t w names i some.0 some.1)

-- whether a name is near one of the names of operations without operands
pub near_bare : (w : List ℕ) → list_any (λ o. is_some (near_edits w o)) bare_operations ≡ is_near w
unfolding is_near
near_bare w = refl
