-- The rows cover the image, and the listing shows it.
use Rattle.std.proofs.Common.{◌≡◌, ℕ, zero, suc, ◌+◌, ◌<◌, ◌≤◌, Bool, true, List, [], ◌∷◌, ◌++◌, length, take, drop, replicate, refl, ap, ◌∙◌, subst, arith, append_assoc, None, length-drop, rules}
use Rattle.std.specs.Prelude.{Ok, sum_by}
use Rattle.std.specs.List.{list_any}
use Rattle.std.proofs.lemmas.List.{length-append}
use Rattle.std.proofs.lemmas.List.Sums.{sum_by-append}
use Rattle.lc3_table.specs.Statements.{Line, Operand, order_fault}
use Rattle.lc3_table.specs.Meaning.{size}
use Rattle.lc3_asm.specs.declared.assembled.Row.{Row}
use Rattle.lc3_asm.specs.Texts.{LineWords, Program, program, labels, words_of, rows_of, row, address_after, origin, is_origin}
use Rattle.lc3_asm.specs.Listings.{words_text, rows_text}
use Rattle.lc3_asm.specs.Laws.{Follow, line_numbers, words_listed}
use Rattle.lc3_asm.proofs.Outcomes.{ok-same}
use Rattle.lc3_asm.proofs.LineLemmas.{line_ordered}
use Rattle.lc3_asm.proofs.EarlierLemmas.{words_behind}
use Rattle.lc3_asm.proofs.MoreLines.{origin-front}
use Rattle.lc3_asm.proofs.ReadLemmas.{AreRead, meant, has-lines, lines-read, all-below}
use Rattle.lc3_asm.proofs.PlaceLemmas.{first-words, words-count}
use Rattle.lc3_word.specs.Segment.{first_device}
use Rattle.std.proofs.lemmas.Grind.{common_steps}

follow-row : (address place count line : ℕ) (rest : List Row) (end : ℕ) → (0 < count → place ≡ address) → Follow (address + count) rest end → Follow address (row line place count ++ rest) end
follow-row address place count line rest end at f = search rules

-- a line with words stands behind a `.ORIG`
sized-started : (s : Bool) (l : Line Operand) → order_fault s l ≡ None → 0 < size l → s ≡ true
sized-started x l e h = search rules

follow : (known : List (List ℕ × ℕ)) (front ls : List (Line Operand)) (made : List LineWords) (address : ℕ) → AreRead front ls → words_behind known front ls ≡ Ok made
    → address ≡ origin (front ++ ls) + sum_by size front → Follow address (rows_of made) (address + length (words_of made))
follow known front [] made address r e at = let same : [] ≡ made = ok-same [] made e in rw (← same) (omega arith)
follow known front (l ∷ ls) made address r e at =
    let first = first-words known front l ls made r.0 e in
    let next : address + length first.here ≡ origin ((front ++ l ∷ []) ++ ls) + sum_by size (front ++ l ∷ []) =
    rw (append_assoc front (l ∷ []) ls) (omega (arith, at, first.count, sum_by-append size front (l ∷ []))) in
    let more = follow known (front ++ l ∷ []) ls first.rest (address + length first.here) r.1 first.rest_is next in
    let here : 0 < length first.here → address_after front ≡ address = λ some.
    let started = sized-started (list_any is_origin front) l (line_ordered (list_any is_origin front) r.0.bytes l r.0.read) (rw first.count at some) in
    omega (arith, at, origin-front front (l ∷ ls) started) in
    let end : (address + length first.here) + length (words_of first.rest) ≡ address + length (first.here ++ words_of first.rest) =
    omega (arith, length-append first.here (words_of first.rest)) in
    rw first.made_is
    (follow-row address (address_after front) (length first.here) (length front + 1) (rows_of first.rest) (address + length (first.here ++ words_of first.rest)) here
    (subst (λ e. Follow (address + length first.here) (rows_of first.rest) e) end more))

pub rows_cover : (text : List ℕ) (p : Program) → program text ≡ Ok p → Follow p.image.origin p.rows (p.image.origin + length p.image.words)
rows_cover text p accepted =
    let has = has-lines text p accepted in
    let means = meant text p has.lines accepted has.read in
    rw (← means.laid) (follow (labels has.lines) [] has.lines means.made (origin has.lines) (lines-read text has.lines has.read) means.words_are (omega arith))

follow-end : (address : ℕ) (rs : List Row) (end : ℕ) → Follow address rs end → address ≤ end
follow-end address [] end f = omega (arith, f)
follow-end address (r ∷ rs) end f = omega (arith, follow-end (address + r.count) rs end f.2)

-- the words of one row
row-listed : (count address line : ℕ) (ws ns : List ℕ) → count ≤ length ws → address + length ws ≤ 65535
    → words_text address line (take count ws) ++ words_listed (address + count) (drop count ws) ns ≡ words_listed address ws (replicate count line ++ ns)
row-listed zero address line ws ns h k = ap (λ a. words_listed a ws ns) (omega arith)
row-listed (suc n) address line [] ns h k = absurd (omega (arith, h))
row-listed (suc n) address line (w ∷ ws) ns h k = grind (arith, common_steps, (row-listed n (address + 1) line ws ns (omega (arith, h)) (omega (arith, k))))

no_more : (address : ℕ) (ws : List ℕ) → [] ≡ words_listed address ws []
no_more address [] = refl
no_more address (w ∷ ws) = refl

rows-listed : (address : ℕ) (rs : List Row) (ws : List ℕ) → Follow address rs (address + length ws) → address + length ws ≤ 65535
    → rows_text rs ws ≡ words_listed address ws (line_numbers rs)
rows-listed address [] ws f k = no_more address ws
rows-listed address (r ∷ rs) ws f k =
    let fits = follow-end (address + r.count) rs (address + length ws) f.2 in
    let rest : length (drop r.count ws) + r.count ≡ length ws = omega (arith, fits, length-drop {A = ℕ}) in
    let end : address + length ws ≡ (address + r.count) + length (drop r.count ws) = omega (arith, rest) in
    ap (λ a. words_text a r.line (take r.count ws) ++ rows_text rs (drop r.count ws)) f.0
    ∙ ap (λ u. words_text address r.line (take r.count ws) ++ u) (rows-listed (address + r.count) rs (drop r.count ws) (subst (λ e. Follow (address + r.count) rs e) end f.2) (omega (arith, end, k)))
    ∙ row-listed r.count address r.line ws (line_numbers rs) (omega (arith, fits)) k

pub listing_shows : (text : List ℕ) (p : Program) → program text ≡ Ok p → rows_text p.rows p.image.words ≡ words_listed p.image.origin p.image.words (line_numbers p.rows)
listing_shows text p accepted =
    let has = has-lines text p accepted in
    let means = meant text p has.lines accepted has.read in
    let reads = lines-read text has.lines has.read in
    let below : address_after has.lines ≤ first_device = all-below [] has.lines reads (omega arith) in
    let count = words-count (labels has.lines) [] has.lines means.made reads means.words_are in
    rw (← means.laid)
    (rows-listed (origin has.lines) (rows_of means.made) (words_of means.made)
    (follow (labels has.lines) [] has.lines means.made (origin has.lines) reads means.words_are (omega arith)) (omega (arith, below, count)))
