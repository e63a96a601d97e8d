-- Addresses of four digits at most.
use Rattle.std.proofs.Common.{◌≡◌, ℕ, ◌<◌, ◌≤◌, Bool, true, false, List, [], ◌∷◌, Some, None, length, min, nat_lt, nat_le, refl, arith, rules}
use Rattle.std.specs.Option.{option_map}
use Rattle.std.specs.List.{list_all}
use Rattle.std.specs.Char.{digit_value}
use Rattle.std.specs.Str.Parse.{digits_value, AllDigits}
use Rattle.std.proofs.lemmas.Bool.{and_parts}
use Rattle.std.proofs.lemmas.Bool.Decides.{nat_tests}
use Rattle.std.proofs.lemmas.Int.Digits.{digits_value-lt}
use Rattle.std.proofs.Math.Nat.{pow-le-pow_right}
use Rattle.lc3_word.specs.Numbers.{unsigned_number}
use Rattle.lab_conditions.specs.Written.{hexadecimal_in}

all_digits : (cs : List ℕ) → list_all (λ c. nat_lt (digit_value c) 16) cs ≡ true → AllDigits 16 cs
all_digits [] h = tt
all_digits (c ∷ cs) h =
    let two = and_parts (nat_lt (digit_value c) 16) (list_all (λ c. nat_lt (digit_value c) 16) cs) h in
    (grind (arith, nat_tests), all_digits cs two.1)

small : (digits : List ℕ) (n : ℕ) → length digits ≤ 4 → unsigned_number 16 digits ≡ Some n → n < 65536
unfolding unsigned_number
small [] n few e = absurd (cc)
small (d ∷ ds) n few e = by (list_all (λ c. nat_lt (digit_value c) 16) (d ∷ ds)) refl
  where
    by : (b : Bool) → list_all (λ c. nat_lt (digit_value c) 16) (d ∷ ds) ≡ b → n < 65536
    by true is =
        let same : Some (digits_value 16 (d ∷ ds)) ≡ Some n = rw is at e in
        let value : digits_value 16 (d ∷ ds) ≡ n = cc in
        omega (arith, value, digits_value-lt 16 (d ∷ ds) (all_digits (d ∷ ds) is), pow-le-pow_right {n = 16} (omega arith) {i = length (d ∷ ds)} {j = 4} few)
    by false is = let none : None ≡ Some n = rw is at e in absurd (cc)

-- such a number is below 65536, and is given as it is
pub address_small : (digits : List ℕ) (n : ℕ) → length digits ≤ 4 → Some n ≡ option_map (λ n. min n 1_000_000_000) (unsigned_number 16 digits)
    → (n < 65536) × (Some n ≡ unsigned_number 16 digits)
address_small digits n few e = search (rules, small)

pub hexadecimal_here : (digits : List ℕ) (n : ℕ) → length digits ≤ 4 → Some n ≡ unsigned_number 16 digits → Some n ≡ hexadecimal_in digits
unfolding hexadecimal_in
hexadecimal_here digits n few e = let short : nat_le (length digits) 4 ≡ true = grind (arith, nat_tests) in rw short e
