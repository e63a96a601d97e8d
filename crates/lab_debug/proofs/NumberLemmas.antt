-- Numbers in a range.
use Rattle.std.proofs.Common.{◌≡◌, ℕ, ◌<◌, ◌≤◌, ℤ, pos, negsuc, List, Option, Some, None, option_map, option_and_then, min, Bool, true, false, ◌&&◌, if◌then◌else◌, nat_le, refl, sym, ◌∙◌, arith}
use Rattle.std.proofs.Math.Nat.{min-eq_left, min-eq_right}
use Rattle.std.proofs.lemmas.Bool.Decides.{nat_tests}
use Rattle.lc3_word.specs.Numbers.{number, capped_number}
use Rattle.lab_debug.specs.Commands.{within, number_within}

outside : (above : Bool) (n : ℕ) → (if above && false then Some n else None) ≡ None
outside true n = refl
outside false n = refl

-- a range below the cap doesn't see it
within-capped : (low high : ℕ) (z : ℤ) → high < 1_000_000_000 → within low high (capped_number z) ≡ within low high z
within-capped low high (pos n) h = by_size (nat_le n 1_000_000_000) refl
  where
    by_size : (small : Bool) → nat_le n 1_000_000_000 ≡ small → within low high (pos (min n 1_000_000_000)) ≡ within low high (pos n)
    by_size true e =
        let le : n ≤ 1_000_000_000 = grind (arith, nat_tests, e) in
        rw (min-eq_left le) refl
    by_size false e =
        let more : 1_000_000_000 ≤ n = grind (arith, nat_tests, e) in
        let cap_ : nat_le 1_000_000_000 high ≡ false = grind (arith, nat_tests, h) in
        let none : nat_le n high ≡ false = grind (arith, nat_tests, h, more) in
        rw (min-eq_right more, cap_, none) (outside (nat_le low 1_000_000_000) 1_000_000_000 ∙ sym (outside (nat_le low n) n))
within-capped low high (negsuc n) h = refl

of_option : (low high : ℕ) (read : Option ℤ) → high < 1_000_000_000 → option_and_then (within low high) (option_map capped_number read) ≡ option_and_then (within low high) read
of_option low high None h = refl
of_option low high (Some z) h = within-capped low high z h

pub number_within_capped : (low high : ℕ) (word : List ℕ) → high < 1_000_000_000 → number_within low high word ≡ option_and_then (within low high) (option_map capped_number (number word))
unfolding number_within
number_within_capped low high word h = sym (of_option low high (number word) h)
