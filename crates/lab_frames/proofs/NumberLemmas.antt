-- A length, digit by digit.
use Rattle.std.proofs.Common.{◌≡◌, ℕ, ◌<◌, ◌≤◌, ◌+◌, ◌-◌, ◌*◌, ◌^◌, List, length, drop, get_or, refl, arith}
use Rattle.std.specs.Prelude.{◌&&◌, nat_lt, true, false, Option, Some, None}
use Rattle.std.specs.Char.{is_ascii_digit}
use Rattle.std.proofs.lemmas.List.{drop_more, drop_all}
use Rattle.std.proofs.lemmas.Bool.Decides.{nat_tests}
use Rattle.lab_frames.specs.Headers.{number_after}

-- a digit more
pub number_more : (n : ℕ) (word : List ℕ) (i digit : ℕ) → i < length word → is_ascii_digit (get_or word i 0) ≡ true → n < 100_000_000_000_000 → digit ≡ get_or word i 0 - 48
    → number_after n (drop i word) ≡ number_after (n * 10 + digit) (drop (i + 1) word)
unfolding number_after
number_more n word i digit within is small same =
    let few : nat_lt n (10 ^ 14) ≡ true = grind (arith, nat_tests, small) in
    rw (drop_more word i 0 within, is, few, same) refl

-- a character that is none
pub number_other : (n : ℕ) (word : List ℕ) (i : ℕ) → i < length word → is_ascii_digit (get_or word i 0) ≡ false → number_after n (drop i word) ≡ None
unfolding number_after
number_other n word i within other = rw (drop_more word i 0 within, other) refl

-- a digit too many
pub number_long : (n : ℕ) (word : List ℕ) (i : ℕ) → i < length word → is_ascii_digit (get_or word i 0) ≡ true → 100_000_000_000_000 ≤ n → number_after n (drop i word) ≡ None
unfolding number_after
number_long n word i within is big =
    let many : nat_lt n (10 ^ 14) ≡ false = grind (arith, nat_tests, big) in
    rw (drop_more word i 0 within, is, many) refl

pub number_all : (n : ℕ) (word : List ℕ) (i : ℕ) → length word ≤ i → number_after n (drop i word) ≡ Some n
unfolding number_after
number_all n word i all = rw (drop_all i word all) refl
