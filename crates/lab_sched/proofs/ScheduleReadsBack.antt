-- The text of a schedule reads back as that schedule.
use Rattle.std.proofs.Common.{◌≡◌, ℕ, zero, suc, get_or, ◌+◌, ◌<◌, ◌≤◌, false, List, [], ◌∷◌, ◌++◌, length, map, drop, refl, ap, ◌∙◌, arith, one-add, Some, None, Ok, Result, IfOk, String, string_bytes, append-nil, length-append, lt-ltb, Bool, true, filter, rules}
use Rattle.std.proofs.Math.Seq.{drop-append-add}
use Rattle.std.specs.Prelude.{decimal, is_none, position, not, ◌==◌}
use Rattle.std.specs.List.{All, AllByRecursion, filter_map, flat_map, position_or_len, slice_split}
use Rattle.std.specs.Char.{digit_value}
use Rattle.std.specs.Str.Parse.{AllDigits, IsNumeral}
use Rattle.std.proofs.lemmas.Fmt.{decimal_is_IsNumeral}
use Rattle.std.proofs.lemmas.Str.Parse.{digit_from_value}
use Rattle.std.proofs.lemmas.Bool.Decides.{nat_tests}
use Rattle.std.proofs.lemmas.List.{take_at}
use Rattle.std.proofs.lemmas.List.Sums.{sum_by-cons}
use Rattle.std.proofs.lemmas.List.Elements.{All-nil, All-cons, All-append}
use Rattle.lab_sched.specs.declared.schedule.Block.{Block}
use Rattle.lab_sched.specs.ScheduleLaws.{ReadsBack}
use Rattle.lab_sched.specs.Schedules.{total_of, IsBlock, IsSchedule, most_steps}
use Rattle.lab_sched.specs.ScheduleTexts.{block_text, schedule_text, words, is_star, in_range, process_in, count_in, block_at, block_from, block_in, is_bad, blocks_of_words, too_long, schedule_of_blocks, reading_of_words, reading, ◌>>=◌}
use Rattle.lab_sched.proofs.ScheduleJoins.{joined-apart}
use Rattle.lc3_word.proofs.Numerals.{unsigned-decimal}
use Rattle.lab_sched.proofs.ScheduleSteps.{blocks-good, fits}
use Rattle.ipc_kernel.specs.Limits.{process_max}
use Rattle.std.proofs.lemmas.List.Splits.{slice_split_at, slice_split_none}
use Rattle.lc3_word.specs.Blanks.{is_among, is_word, words_between, white_space}

-- a blank of a schedule's text
abbrev pub is_space : ℕ → Bool
is_space c = is_among white_space c

some_test : (n : ℕ) → 0 < n → not (n == 0) ≡ true
some_test n h = grind (arith, nat_tests)

kept-some : (w : List ℕ) (ws : List (List ℕ)) → 0 < length w → filter is_word (w ∷ ws) ≡ w ∷ filter is_word ws
kept-some w ws h = rw (some_test (length w) h) refl

pub words-none : words [] ≡ []
unfolding words_between
words-none = refl

-- a word, and then a blank
pub words-blank : (w bs : List ℕ) → 0 < length w → All (λ c. is_space c ≡ false) w → words (w ++ 32 ∷ bs) ≡ w ∷ words bs
unfolding words_between
words-blank w bs l h = ap (filter is_word) (slice_split_at is_space w 32 bs h refl) ∙ kept-some w (slice_split is_space bs) l

pub words-last : (w : List ℕ) → 0 < length w → All (λ c. is_space c ≡ false) w → words w ≡ w ∷ []
unfolding words_between
words-last w l h = ap (filter is_word) (slice_split_none is_space w h) ∙ kept-some w [] l

-- blocks with a blank before each
abbrev later_text : List Block → List ℕ
later_text blocks = flat_map (λ b. 32 ∷ block_text b) blocks

digit_no_space : (c : ℕ) → digit_value c < 10 → is_space c ≡ false
digit_no_space c h = let r = digit_from_value c h in grind (arith, nat_tests, r)

digit_no_star : (c : ℕ) → digit_value c < 10 → is_star c ≡ false
digit_no_star c h = let r = digit_from_value c h in grind (arith, nat_tests, r)

digits_no_space : (ds : List ℕ) → AllDigits 10 ds → All (λ c. is_space c ≡ false) ds
digits_no_space [] h = All-nil (λ c. is_space c ≡ false)
digits_no_space (d ∷ ds) h = All-cons (λ c. is_space c ≡ false) d ds (digit_no_space d h.0) (digits_no_space ds h.1)

star_after : (ds rest : List ℕ) → AllDigits 10 ds → position_or_len is_star (ds ++ 42 ∷ rest) ≡ length ds
star_after [] rest h = refl
star_after (d ∷ ds) rest h = rw (digit_no_star d h.0, star_after ds rest h.1, one-add) refl

star_at : (ds rest : List ℕ) → AllDigits 10 ds → position is_star (ds ++ 42 ∷ rest) ≡ Some (length ds)
star_at ds rest h = rw (star_after ds rest h, lt-ltb (length ds) (length (ds ++ 42 ∷ rest)) (omega (arith, length-append ds (42 ∷ rest)))) refl

process_in-decimal : (p : ℕ) → p < process_max → process_in (decimal p) ≡ Some p
unfolding process_in
process_in-decimal p h = ap (in_range 0 63) (unsigned-decimal p (omega arith)) ∙ grind (arith, nat_tests)

count_in-decimal : (n : ℕ) → 1 ≤ n → n ≤ most_steps → count_in (decimal n) ≡ Some n
unfolding count_in
count_in-decimal n h k = ap (in_range 1 most_steps) (unsigned-decimal n (omega arith)) ∙ grind (arith, nat_tests)

block_in-text : (b : Block) → IsBlock b → b.count ≤ most_steps → block_in (block_text b) ≡ Some b
unfolding block_in block_text
block_in-text b h k =
    let pid : IsNumeral 10 (decimal b.pid) = (decimal_is_IsNumeral b.pid (omega (arith, h.process))).0 in
    ap (λ o. block_at o (decimal b.pid ++ 42 ∷ decimal b.count)) (star_at (decimal b.pid) (decimal b.count) pid.1)
    ∙ ap (λ w. block_from (process_in w) (count_in (drop (length (decimal b.pid) + 1) (decimal b.pid ++ 42 ∷ decimal b.count)))) (take_at (decimal b.pid) (42 ∷ decimal b.count) (length (decimal b.pid)) refl)
    ∙ ap (λ w. block_from (process_in (decimal b.pid)) (count_in w)) (drop-append-add (decimal b.pid) (42 ∷ decimal b.count) 1)
    ∙ rw (process_in-decimal b.pid h.process, count_in-decimal b.count h.some k) refl

text_no_space : (b : Block) → IsBlock b → b.count ≤ most_steps → All (λ c. is_space c ≡ false) (block_text b)
unfolding block_text
text_no_space b h k =
    All-append (λ c. is_space c ≡ false) (decimal b.pid) (42 ∷ decimal b.count)
    (digits_no_space (decimal b.pid) (decimal_is_IsNumeral b.pid (omega (arith, h.process))).0.1)
    (All-cons (λ c. is_space c ≡ false) 42 (decimal b.count) refl (digits_no_space (decimal b.count) (decimal_is_IsNumeral b.count (omega arith)).0.1))

text_some : (b : Block) → 0 < length (block_text b)
unfolding block_text
text_some b = omega (arith, length-append (decimal b.pid) (42 ∷ decimal b.count))

-- small enough, each of them
abbrev AreSmall : List Block → Type 0
AreSmall bs = AllByRecursion (λ b. b.count ≤ most_steps) bs

words-text : (b : Block) (rest : List Block) → AllByRecursion IsBlock (b ∷ rest) → AreSmall (b ∷ rest)
    → words (block_text b ++ later_text rest) ≡ block_text b ∷ map block_text rest
words-text b [] v s = ap words (append-nil (block_text b)) ∙ words-last (block_text b) (text_some b) (text_no_space b v.0 s.0)
words-text b (c ∷ rest) v s = search (rules, words-blank, text_some, text_no_space, (words-text c rest v.1 s.1))

blocks-text : (bs : List Block) → AllByRecursion IsBlock bs → AreSmall bs → filter_map block_in (map block_text bs) ≡ bs
blocks-text [] v s = refl
blocks-text (b ∷ rest) v s = rw (block_in-text b v.0 s.0, blocks-text rest v.1 s.1) refl

texts-good : (bs : List Block) → AllByRecursion IsBlock bs → AreSmall bs → (k : ℕ) → k < length (map block_text bs) → is_bad (get_or (map block_text bs) k []) ≡ false
texts-good [] v s k below = absurd (omega arith)
texts-good (b ∷ rest) v s zero below = ap is_none (block_in-text b v.0 s.0)
texts-good (b ∷ rest) v s (suc k) below = texts-good rest v.1 s.1 k (omega arith)

too_long-none : (at total : ℕ) (bs : List Block) → total + total_of bs ≤ most_steps → too_long at total bs ≡ None
unfolding too_long
too_long-none at total [] h = refl
too_long-none at total (b ∷ rest) h =
    let sum : total_of (b ∷ rest) ≡ b.count + total_of rest = sum_by-cons (λ (d : Block). d.count) b rest in
    rw (fits (total + b.count) most_steps (omega arith)) (too_long-none (at + 1) (total + b.count) rest (omega arith))

small-from_total : (bs : List Block) → total_of bs ≤ most_steps → AreSmall bs
small-from_total [] h = tt
small-from_total (b ∷ rest) h =
    let sum : total_of (b ∷ rest) ≡ b.count + total_of rest = sum_by-cons (λ (d : Block). d.count) b rest in
    (omega arith, small-from_total rest (omega arith))

words-schedule : (bs : List Block) → IsSchedule bs → words (schedule_text bs) ≡ map block_text bs
unfolding schedule_text
words-schedule [] h = words-none
words-schedule (b ∷ rest) h = words-text b rest h.valid (small-from_total (b ∷ rest) h.within)

pub reads_back_lem : ReadsBack
unfolding reading_of_words schedule_of_blocks
reads_back_lem bs h =
    let small = small-from_total bs h.within in
    ap (λ ws. blocks_of_words ws >>= schedule_of_blocks) (words-schedule bs h)
    ∙ ap (λ r. r >>= schedule_of_blocks) (blocks-good (map block_text bs) (texts-good bs h.valid small) ∙ ap Ok (blocks-text bs h.valid small))
    ∙ rw (too_long-none 1 0 bs (omega (arith, h.within))) (ap Ok (joined-apart bs h.apart))

-- a text that was written reads back
pub shown_back : {A E : Type 0} (r : Result (String A) E) (bs : List Block) → IsSchedule bs → IfOk r (λ s. string_bytes s ≡ schedule_text bs)
    → IfOk r (λ s. reading (string_bytes s) ≡ Ok bs)
shown_back x bs h e = search (rules, reads_back_lem)
