-- Where a name ends.
use Rattle.std.proofs.Common.{◌≡◌, ℕ, ◌<◌, ◌≤◌, ◌==◌, true, false, List, Some, None, not, length, arith, length-take}
use Rattle.std.proofs.lemmas.Bool.Decides.{nat_tests}
use Rattle.std.proofs.lemmas.List.Sums.{prefix_len-le-length}
use Rattle.ipc_traps.specs.Names.{window, name_length, reaches_devices}
use Rattle.lab_told.specs.Words.{name_end}

-- a name that reaches the device registers has no end
pub no_end : (memory : List ℕ) (a : ℕ) → reaches_devices memory a ≡ true → None ≡ name_end memory a
unfolding name_end reaches_devices name_length
no_end memory a reaches = grind (arith, nat_tests)

length-window : (memory : List ℕ) (a : ℕ) → length (window memory a) ≤ 256
unfolding window
length-window memory a = simp length-take (omega arith)

-- a name of all words that are looked at has none
pub no_end_within : (memory : List ℕ) (a n : ℕ) → name_length memory a ≡ n → 256 ≤ n → None ≡ name_end memory a
unfolding name_end name_length
no_end_within memory a n long full =
    let few = length-window memory a in
    grind (arith, nat_tests)

-- a shorter name ends behind its words
pub end_behind : (memory : List ℕ) (a n : ℕ) → reaches_devices memory a ≡ false → name_length memory a ≡ n → n < 256 → Some n ≡ name_end memory a
unfolding name_end reaches_devices name_length
end_behind memory a n reaches long short =
    let inside = prefix_len-le-length (λ w. not (w == 0)) (window memory a) in
    grind (arith, nat_tests)
