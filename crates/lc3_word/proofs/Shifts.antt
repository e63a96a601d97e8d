-- Sign extension by a shift to the top of thirty-two bits and back.
use Rattle.std.proofs.Common.{◌≡◌, ℕ, suc, ◌+◌, ◌-◌, ◌*◌, ◌/◌, ◌%◌, ◌^◌, ◌<◌, ◌≤◌, ℤ, pos, negsuc, arith, sym, ap, ◌∙◌, nat_lt, true, false, inl, inr, w16, w32, FitsSigned, to_z, of_z, bit_and, rules}
use Rattle.std.proofs.lemmas.Nat.{and_mask, mod_below, pow_pos, pow-add, div-add-mod', mul-add-lt, mod-mul-add, div-mul-add}
use Rattle.std.proofs.lemmas.Int.{ints, of_z-to_z, to_z-of_z}
use Rattle.std.proofs.lemmas.Bool.Decides.{nat_tests}
use Rattle.std.proofs.Math.Nat.{mul_assoc, mul_comm, add-mul, suc-mul, mul-le-mul_right}
use lib.Signed.{shr_z}
use Rattle.lc3_word.specs.Words.{low_bits, signed_value}
use Rattle.lc3_word.proofs.Fields.{half}
use Rattle.lc3_word.proofs.Signed.{signed_value-cases, signed_value-IsSigned, IsSigned-fits}
use Rattle.std.proofs.lemmas.Grind.{common_steps}

-- thirty-two bits are those above b and those below
whole_32 : (b : ℕ) → b ≤ 16 → 4294967296 ≡ 2 ^ (32 - b) * 2 ^ b
whole_32 b h =
    let e : (32 - b) + b ≡ 32 = omega arith in
    let p : 2 ^ ((32 - b) + b) ≡ 2 ^ (32 - b) * 2 ^ b = pow-add 2 (32 - b) b in
    rw e at p

-- the low b bits of a word at the top of thirty-two
moved_up : (b w : ℕ) → b ≤ 16 → w * 2 ^ (32 - b) % 4294967296 ≡ w % 2 ^ b * 2 ^ (32 - b)
moved_up b w word = grind (arith, common_steps, whole_32, div-add-mod', mul_assoc, mul_comm, add-mul, mul-add-lt, mod_below, pow_pos, mod-mul-add)

-- and back, where the top bit is copied
moved_back : (b w : ℕ) → 1 ≤ b → b ≤ 16 → shr_z (to_z w32 (w % 2 ^ b * 2 ^ (32 - b))) (2 ^ (32 - b)) ≡ signed_value b w
moved_back b w one word =
    let all : 4294967296 ≡ 2 ^ (32 - b) * 2 ^ b = whole_32 b word in
    let twice : 2 ^ b ≡ 2 ^ (b - 1) + 2 ^ (b - 1) = half b one in
    let some : 0 < 2 ^ (32 - b) = pow_pos (32 - b) in
    let low : w % 2 ^ b < 2 ^ b = mod_below w (2 ^ b) (pow_pos b) in
    let e : (32 - b) + (b - 1) ≡ 31 = omega arith in
    let halves : 2 ^ (32 - b) * 2 ^ (b - 1) ≡ 2147483648 = sym (pow-add 2 (32 - b) (b - 1)) ∙ ap (λ k. 2 ^ k) e in
    elim (signed_value-cases b w) [
      | inl h ↦
          let below : w % 2 ^ b * 2 ^ (32 - b) < 2147483648 = (let s = mul-add-lt (w % 2 ^ b) (2 ^ (32 - b)) 0 (2 ^ (b - 1)) h.0 some in omega (arith, s, halves)) in
          let test : nat_lt (w % 2 ^ b * 2 ^ (32 - b)) 2147483648 ≡ true = grind (arith, nat_tests) in
          let back : (w % 2 ^ b * 2 ^ (32 - b) + 0) / 2 ^ (32 - b) ≡ w % 2 ^ b = div-mul-add (w % 2 ^ b) (2 ^ (32 - b)) 0 some in
          rw (test, h.1) (ap pos (ap (λ n. n / 2 ^ (32 - b)) (omega arith) ∙ back))
      | inr h ↦
          let rest : ℕ = 2 ^ b - 1 - w % 2 ^ b in
          let sum : suc (2 ^ b - 1 - w % 2 ^ b + w % 2 ^ b) ≡ 2 ^ b = omega arith in
          let whole_is : suc (2 ^ b - 1 - w % 2 ^ b + w % 2 ^ b) * 2 ^ (32 - b) ≡ 4294967296 = ap (λ n. n * 2 ^ (32 - b)) sum ∙ mul_comm (2 ^ b) (2 ^ (32 - b)) ∙ sym all in
          let doubled : suc (2 ^ b - 1 - w % 2 ^ b + w % 2 ^ b) * 2 ^ (32 - b) ≡ (2 ^ b - 1 - w % 2 ^ b + w % 2 ^ b) * 2 ^ (32 - b) + 2 ^ (32 - b) = suc-mul (2 ^ b - 1 - w % 2 ^ b + w % 2 ^ b) (2 ^ (32 - b)) in
          let opened : (2 ^ b - 1 - w % 2 ^ b + w % 2 ^ b) * 2 ^ (32 - b) ≡ (2 ^ b - 1 - w % 2 ^ b) * 2 ^ (32 - b) + w % 2 ^ b * 2 ^ (32 - b) = add-mul (2 ^ b - 1 - w % 2 ^ b) (w % 2 ^ b) (2 ^ (32 - b)) in
          let least : 2 ^ (b - 1) * 2 ^ (32 - b) ≤ w % 2 ^ b * 2 ^ (32 - b) = mul-le-mul_right (2 ^ (32 - b)) h.0 in
          let above : 2147483648 ≤ w % 2 ^ b * 2 ^ (32 - b) = (let m = mul_comm (2 ^ (b - 1)) (2 ^ (32 - b)) in omega (arith, m, halves, least)) in
          let test : nat_lt (w % 2 ^ b * 2 ^ (32 - b)) 2147483648 ≡ false = grind (arith, nat_tests) in
          let left : 4294967296 - suc (w % 2 ^ b * 2 ^ (32 - b)) ≡ (2 ^ b - 1 - w % 2 ^ b) * 2 ^ (32 - b) + (2 ^ (32 - b) - 1) = omega arith in
          let back : ((2 ^ b - 1 - w % 2 ^ b) * 2 ^ (32 - b) + (2 ^ (32 - b) - 1)) / 2 ^ (32 - b) ≡ 2 ^ b - 1 - w % 2 ^ b = div-mul-add (2 ^ b - 1 - w % 2 ^ b) (2 ^ (32 - b)) (2 ^ (32 - b) - 1) (omega arith) in
          rw (test, h.1) (ap negsuc (ap (λ n. n / 2 ^ (32 - b)) left ∙ back))
    ]

-- the low sixteen bits of a word's signed value
low_of_z : (z : ℤ) → FitsSigned w16 z → of_z w32 z % 65536 ≡ low_bits 16 z
low_of_z x f = search rules

-- a number that sixteen bits hold is held by thirty-two
wider : (z : ℤ) → FitsSigned w16 z → FitsSigned w32 z
wider z f = omega (arith, ints)

-- the low b bits of a word, shifted up and back, of which the low sixteen are kept
pub sext_shift : (b w : ℕ) (raised : ℤ) (r : ℕ) → 1 ≤ b → b ≤ 16 → raised ≡ to_z w32 (w * 2 ^ (32 - b) % 4294967296)
    → r ≡ of_z w32 (to_z w32 (of_z w32 (shr_z (to_z w32 (of_z w32 raised)) (2 ^ (32 - b))))) → bit_and r 65535 ≡ low_bits 16 (signed_value b w)
sext_shift b w raised r one word raised-is r-is = grind (arith, common_steps, IsSigned-fits, signed_value-IsSigned, wider, mod_below, of_z-to_z, moved_up, moved_back, to_z-of_z, and_mask, low_of_z)
