-- The first bad word of a list.
use Rattle.std.proofs.Common.{rules, nat_lt, ap, sym, ◌∙◌, ◌++◌, ◌∷◌, is_none, ◌≡◌, ℕ, ◌+◌, ◌^◌, ◌<◌, ◌≤◌, lit<, cond, subst, Bool, List, [], length, take, get_or, true, false, Ok, Err, Some, None, refl, arith}
use Rattle.std.specs.List.{filter_map, list_all, position_or_len}
use Rattle.std.specs.Char.{digit_value}
use Rattle.std.specs.Str.Parse.{digits_value, AllDigits}
use Rattle.std.proofs.lemmas.Bool.{and_parts}
use Rattle.std.proofs.lemmas.Int.Digits.{digits_value-lt}
use Rattle.std.proofs.Math.Nat.{pow-le-pow_right}
use Rattle.lc3_word.specs.Numbers.{unsigned_number}
use Rattle.std.proofs.lemmas.Bool.Decides.{nat_tests}
use Rattle.std.proofs.lemmas.List.{take_more}
use Rattle.std.proofs.lemmas.List.Elements.{filter_map-append}
use Rattle.std.proofs.lemmas.List.Sums.{position_or_len_is}
use Rattle.lab_hex.specs.Hex.{is_bad, number_of, numbers_of}
use Rattle.lab_hex.specs.declared.run.CliFault.TheVariants.{BadWord}

-- a bad word after good ones is the fault
pub numbers_of-bad : (words : List (List ℕ)) (i : ℕ) → i < length words → ((k : ℕ) → k < i → is_bad (get_or words k []) ≡ false)
    → is_bad (get_or words i []) ≡ true → numbers_of words ≡ Err (BadWord (i + 1))
numbers_of-bad words i h good bad =
    let first : position_or_len is_bad words ≡ i = position_or_len_is is_bad words i [] (omega arith) good (λ _. bad) in
    let within : nat_lt i (length words) ≡ true = search (rules, h) in
    rw (first, within) refl

-- without a bad word the numbers are those of the words
pub numbers_of-good : (words : List (List ℕ)) → ((k : ℕ) → k < length words → is_bad (get_or words k []) ≡ false)
    → numbers_of words ≡ Ok (filter_map number_of words)
numbers_of-good words good =
    let first : position_or_len is_bad words ≡ length words =
    position_or_len_is is_bad words (length words) [] (omega arith) good (λ h. absurd (omega arith)) in
    let past : nat_lt (length words) (length words) ≡ false = grind (arith, nat_tests) in
    rw (first, past) refl

-- digits that pass the test are digits
all_digits : (base : ℕ) (ds : List ℕ) → list_all (λ c. nat_lt (digit_value c) base) ds ≡ true → AllDigits base ds
all_digits base [] h = tt
all_digits base (d ∷ ds) h =
    let parts = and_parts (nat_lt (digit_value d) base) (list_all (λ c. nat_lt (digit_value c) base) ds) h in
    let first : digit_value d < base = let p = parts.0 in grind (arith, nat_tests, p) in
    (first, all_digits base ds parts.1)

-- what four digits write is a word
pub short_value : (ds : List ℕ) → length ds ≤ 4 → AllDigits 16 ds → digits_value 16 ds < 65536
short_value ds short all =
    let below = digits_value-lt 16 ds all in
    let room : 16 ^ length ds ≤ 16 ^ 4 = pow-le-pow_right {n = 16} (lit< tt) short in
    omega (arith, below, room)

pub short_number : (ds : List ℕ) (n : ℕ) → length ds ≤ 4 → unsigned_number 16 ds ≡ Some n → n < 65536
unfolding unsigned_number
short_number [] n short e = cc
short_number (d ∷ ds) n short e = by (list_all (λ c. nat_lt (digit_value c) 16) (d ∷ ds)) refl e
  where
    by : (b : Bool) → list_all (λ c. nat_lt (digit_value c) 16) (d ∷ ds) ≡ b → cond b (Some (digits_value 16 (d ∷ ds))) None ≡ Some n → n < 65536
    by true all h =
        let same : digits_value 16 (d ∷ ds) ≡ n = cc in
        subst (λ v. v < 65536) same (short_value (d ∷ ds) short (all_digits 16 (d ∷ ds) all))
    by false all h = cc

pub is_bad-none : (word : List ℕ) → None ≡ number_of word → is_bad word ≡ true
is_bad-none word e = ap is_none (sym e)

pub is_bad-some : (word : List ℕ) (n : ℕ) → Some n ≡ number_of word → is_bad word ≡ false
is_bad-some word n e = ap is_none (sym e)

-- one word more gives one number more
pub filter_map-take-more : (words : List (List ℕ)) (i n : ℕ) → i < length words → Some n ≡ number_of (get_or words i [])
    → filter_map number_of (take (i + 1) words) ≡ filter_map number_of (take i words) ++ n ∷ []
filter_map-take-more words i n h e =
    let one : filter_map number_of (get_or words i [] ∷ []) ≡ n ∷ [] = rw (← e) refl in
    ap (filter_map number_of) (take_more words i [] h) ∙ filter_map-append number_of (take i words) (get_or words i [] ∷ [])
    ∙ ap (λ (l : List ℕ). filter_map number_of (take i words) ++ l) one
