-- One more word of a text, and one more block of a schedule.
use Rattle.std.proofs.Common.{◌≡◌, ℕ, ◌+◌, ◌<◌, ◌≤◌, true, false, List, [], ◌∷◌, ◌++◌, length, take, drop, get_or, refl, ap, sym, ◌∙◌, arith, Some, None, Result, Ok, Err, rules}
use Rattle.std.specs.Prelude.{nat_lt}
use Rattle.std.specs.List.{filter_map}
use Rattle.std.proofs.lemmas.List.Elements.{filter_map-append}
use Rattle.std.proofs.lemmas.List.Sums.{position_or_len_is}
use Rattle.std.proofs.lemmas.List.{drop_more, take_more, take_all, drop_all}
use Rattle.std.proofs.lemmas.Bool.Decides.{nat_tests}
use Rattle.lab_sched.specs.declared.schedule.Block.{Block}
use Rattle.lab_sched.specs.declared.schedule.SchedFault.{SchedFault}
use Rattle.lab_sched.specs.declared.schedule.SchedFault.TheVariants.{BadBlock, TooLong}
use Rattle.lab_sched.specs.Schedules.{joined_blocks, most_steps}
use Rattle.lab_sched.specs.ScheduleTexts.{blocks_of_words, block_in, is_bad, too_long, schedule_of_blocks, reading_of_words, Fails, ◌>>=◌}
use Rattle.lab_sched.proofs.ScheduleJoins.{joined-joined}

pub fits : (m n : ℕ) → m ≤ n → nat_lt n m ≡ false
fits m n h = grind (arith, nat_tests)

exceeds : (m n : ℕ) → n < m → nat_lt n m ≡ true
exceeds m n h = grind (arith, nat_tests)

-- where each word is a block
pub blocks-good : (ws : List (List ℕ)) → ((k : ℕ) → k < length ws → is_bad (get_or ws k []) ≡ false) → blocks_of_words ws ≡ Ok (filter_map block_in ws)
unfolding blocks_of_words
blocks-good ws good =
    let all = position_or_len_is is_bad ws (length ws) [] (omega arith) good (λ below. absurd (omega arith)) in
    rw (all, fits (length ws) (length ws) (omega arith)) refl

-- where the first that is none stands
pub blocks-bad : (ws : List (List ℕ)) (i : ℕ) → i < length ws → is_bad (get_or ws i []) ≡ true → ((k : ℕ) → k < i → is_bad (get_or ws k []) ≡ false)
    → blocks_of_words ws ≡ Err (BadBlock (i + 1))
unfolding blocks_of_words
blocks-bad ws i within bad good =
    let place = position_or_len_is is_bad ws i [] (omega arith) good (λ below. bad) in
    rw (place, exceeds (length ws) i within) refl

pub blocks-more : (ws : List (List ℕ)) (i : ℕ) (b : Block) → i < length ws → block_in (get_or ws i []) ≡ Some b
    → filter_map block_in (take (i + 1) ws) ≡ filter_map block_in (take i ws) ++ b ∷ []
blocks-more ws i b within e = rw (take_more ws i [] within, filter_map-append block_in (take i ws) (get_or ws i [] ∷ []), e) refl

-- blocks in a row

pub too_long-more : (bs : List Block) (i total : ℕ) (d : Block) → i < length bs → total + (get_or bs i d).count ≤ most_steps
    → too_long (i + 1) total (drop i bs) ≡ too_long (i + 1 + 1) (total + (get_or bs i d).count) (drop (i + 1) bs)
unfolding too_long
too_long-more bs i total d h room = rw (drop_more bs i d h, fits (total + (get_or bs i d).count) most_steps room) refl

pub too_long-here : (bs : List Block) (i total : ℕ) (d : Block) → i < length bs → most_steps < total + (get_or bs i d).count
    → too_long (i + 1) total (drop i bs) ≡ Some (i + 1)
unfolding too_long
too_long-here bs i total d h room = rw (drop_more bs i d h, exceeds (total + (get_or bs i d).count) most_steps room) refl

pub too_long-end : (bs : List Block) (i total : ℕ) → length bs ≤ i → too_long (i + 1) total (drop i bs) ≡ None
unfolding too_long
too_long-end bs i total h = rw (drop_all i bs h) refl

pub joined-none : [] ≡ joined_blocks []
unfolding joined_blocks
joined-none = refl

pub joined-more : (bs : List Block) (i : ℕ) (d : Block) → i < length bs → joined_blocks (joined_blocks (take i bs) ++ get_or bs i d ∷ []) ≡ joined_blocks (take (i + 1) bs)
joined-more bs i d h = joined-joined (take i bs) (get_or bs i d ∷ []) ∙ ap joined_blocks (sym (take_more bs i d h))

pub schedule-long : (bs : List Block) (at : ℕ) → too_long 1 0 bs ≡ Some at → schedule_of_blocks bs ≡ Err (TooLong at)
unfolding schedule_of_blocks
schedule-long bs at e = rw e refl

pub schedule-ok : (bs made : List Block) (i : ℕ) → too_long 1 0 bs ≡ None → made ≡ joined_blocks (take i bs) → length bs ≤ i → schedule_of_blocks bs ≡ Ok made
unfolding schedule_of_blocks
schedule-ok bs made i e m h = rw e (ap Ok (ap joined_blocks (sym (take_all i bs h)) ∙ sym m))

pub fails-then : {A B : Type 0} (e : SchedFault) (read : Result A SchedFault) (next : A → Result B SchedFault) → Fails e read → Fails e (read >>= next)
fails-then x read next h = search rules

pub reading-fails : (e : SchedFault) (ws : List (List ℕ)) → Fails e (blocks_of_words ws) → Fails e (reading_of_words ws)
unfolding reading_of_words
reading-fails e ws h = fails-then e (blocks_of_words ws) schedule_of_blocks h

pub reading-ok : (ws : List (List ℕ)) (blocks : List Block) → blocks_of_words ws ≡ Ok blocks → reading_of_words ws ≡ schedule_of_blocks blocks
unfolding reading_of_words
reading-ok ws blocks h = rw h refl
