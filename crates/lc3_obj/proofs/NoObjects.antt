-- Bytes that are no image's object file.
use Rattle.std.proofs.Common.{◌≡◌, ℕ, ◌+◌, ◌*◌, ◌%◌, ◌<◌, List, [], ◌∷◌, length, flat_map, refl, ap, sym, ◌∙◌, arith}
use Rattle.lc3_word.specs.Segment.{Segment, first_device}
use Rattle.lc3_obj.specs.Object.{word_bytes, object_bytes, origin_of, word_count, IsNoObject}

-- each word has two bytes
pub length-words : (words : List ℕ) → length (flat_map word_bytes words) ≡ 2 * length words
length-words [] = refl
length-words (w ∷ words) = let rest = length-words words in omega (arith, rest)

length-object : (image : Segment) (bytes : List ℕ) → object_bytes image ≡ bytes → length bytes ≡ 2 * length image.words + 2
length-object image bytes e = let words = length-words image.words in sym (ap length e) ∙ omega (arith, words)

pub IsNoObject-odd : (bytes : List ℕ) → length bytes % 2 ≡ 1 → IsNoObject bytes
IsNoObject-odd bytes odd image below e = let count = length-object image bytes e in absurd (omega (arith, count, odd))

pub IsNoObject-long : (bytes : List ℕ) → first_device < origin_of bytes + word_count bytes → IsNoObject bytes
IsNoObject-long bytes long image below e =
    let count = length-object image bytes e in
    let origin : origin_of bytes ≡ image.origin = rw (← e) (omega arith) in
    absurd (omega (arith, count, origin, long, below))
