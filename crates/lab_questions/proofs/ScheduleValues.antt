-- The characters of a schedule stand for themselves in a text.
use Rattle.std.proofs.Common.{ℕ, ◌≡◌, ◌<◌, ◌≤◌, ◌==◌, ◌&&◌, ◌+◌, true, false, List, [], ◌∷◌, ◌++◌, nat_le, flat_map, refl, ap, ap₂, ◌∙◌, arith}
use Rattle.std.specs.Fmt.{decimal, digit_glyph}
use Rattle.std.proofs.lemmas.Bool.Decides.{nat_tests}
use Rattle.std.proofs.lemmas.List.Concat.{flat_map-append}
use Rattle.lab_sched.specs.declared.schedule.Block.{Block}
use Rattle.lab_sched.specs.ScheduleTexts.{block_text, schedule_text}
use Rattle.lab_questions.specs.Values.{character_json, name_json, schedule_json, text_json}
use Rattle.lab_questions.proofs.LineLemmas.{of_decimal}

-- each character stands for itself
abbrev IsPlain : List ℕ → Type 0
IsPlain cs = flat_map character_json cs ≡ cs

plain-append : (xs ys : List ℕ) → IsPlain xs → IsPlain ys → IsPlain (xs ++ ys)
plain-append xs ys h k = flat_map-append character_json xs ys ∙ ap₂ (λ a b. a ++ b) h k

plain_between : (c : ℕ) → 48 ≤ c → c ≤ 57 → character_json c ≡ c ∷ []
unfolding character_json
plain_between c low high =
    let quote : (c == 34) ≡ false = grind (arith, nat_tests) in
    let slash : (c == 92) ≡ false = grind (arith, nat_tests) in
    let printed : (nat_le 32 c && nat_le c 126) ≡ true = grind (arith, nat_tests) in
    rw quote (rw slash (rw printed refl))

glyph_is : (d : ℕ) → d < 10 → digit_glyph false d ≡ 48 + d
glyph_is d small = grind (arith, nat_tests)

plain_glyph : (d : ℕ) → d < 10 → character_json (digit_glyph false d) ≡ digit_glyph false d ∷ []
plain_glyph d small = let is = glyph_is d small in plain_between (digit_glyph false d) (omega (arith, is)) (omega (arith, is, small))

plain_decimal : (n : ℕ) → IsPlain (decimal n)
plain_decimal n = of_decimal IsPlain (λ d after small h. ap₂ (λ a b. a ++ b) (plain_glyph d small) h) refl n

plain_star : IsPlain (42 ∷ [])
unfolding character_json
plain_star = refl

plain_blank : IsPlain (32 ∷ [])
unfolding character_json
plain_blank = refl

plain_block : (b : Block) → IsPlain (block_text b)
unfolding block_text
plain_block b = plain-append (decimal b.pid) (42 ∷ decimal b.count) (plain_decimal b.pid) (plain-append (42 ∷ []) (decimal b.count) plain_star (plain_decimal b.count))

plain_blocks : (bs : List Block) → IsPlain (flat_map (λ b. 32 ∷ block_text b) bs)
plain_blocks [] = refl
plain_blocks (b ∷ bs) =
    plain-append (32 ∷ block_text b) (flat_map (λ c. 32 ∷ block_text c) bs) (plain-append (32 ∷ []) (block_text b) plain_blank (plain_block b)) (plain_blocks bs)

plain_schedule : (bs : List Block) → IsPlain (schedule_text bs)
unfolding schedule_text
plain_schedule [] = refl
plain_schedule (b ∷ bs) = plain-append (block_text b) (flat_map (λ c. 32 ∷ block_text c) bs) (plain_block b) (plain_blocks bs)

-- the text of a schedule is one as it is
pub schedule_is_plain : (bs : List Block) → schedule_json bs ≡ name_json (schedule_text bs)
unfolding text_json
schedule_is_plain bs = ap name_json (plain_schedule bs)
