-- Which faults a text has, and what is read.
use Rattle.std.proofs.Common.{inl, inr, ◌≡◌, ◌<◌, ◌≤◌, ◌-◌, ◌+◌, ℕ, suc, List, [], ◌∷◌, length, map, take, drop, get_or, Bool, true, false, cond, Option, Some, None, Result, Ok, Err, refl, ap, sym, arith, subst, IfOk, IfErr, rules}
use Rattle.std.specs.Prelude.{nat_lt, position, is_none, IfSome}
use Rattle.std.specs.List.{AllByRecursion, filter_map, position_or_len}
use Rattle.std.proofs.lemmas.List.Sums.{sum_by-cons, fails_before_first, passes_at_first}
use Rattle.std.proofs.lemmas.Bool.Decides.{leb_tells, nat_tests}
use Rattle.lab_sched.specs.declared.schedule.Block.{Block}
use Rattle.lab_sched.specs.declared.schedule.SchedFault.{SchedFault}
use Rattle.lab_sched.specs.declared.schedule.SchedFault.TheVariants.{BadBlock, TooLong, NoMemory}
use Rattle.lab_sched.specs.Schedules.{total_of, steps_of, joined_blocks, IsBlock, IsSchedule, most_steps}
use Rattle.lc3_word.specs.Numbers.{unsigned_number}
use Rattle.lab_sched.specs.ScheduleTexts.{words, is_star, in_range, process_in, count_in, block_at, block_from, block_in, is_bad, blocks_of_words, too_long, schedule_of_blocks, within, reading_of_words, reading, Fails, ◌>>=◌}
use Rattle.lab_sched.specs.Private.Reading.{Gives}
use Rattle.lab_sched.specs.ScheduleLaws.{IsFirstBad, IsFirstOver, IsFirstTooLong, FirstBadBlock, FirstTooLong, ReadSteps}
use Rattle.lab_sched.proofs.ScheduleSteps.{blocks-bad}
use Rattle.lab_sched.proofs.ScheduleJoins.{apart-joined, total-joined, steps-joined, valid-joined}
use Rattle.ipc_kernel.specs.Limits.{process_max}

-- the block of a word is valid
range-valid : (low high : ℕ) (P : ℕ → Type 0) (o : Option ℕ) → ((n : ℕ) → low ≤ n → n ≤ high → P n) → IfSome (in_range low high o) P
range-valid low high x y valid = search rules

block_from-valid : (p n : Option ℕ) → IfSome p (λ k. k < process_max) → IfSome n (λ k. 1 ≤ k) → IfSome (block_from p n) IsBlock
block_from-valid x n f g = search rules

block_in-valid : (w : List ℕ) → IfSome (block_in w) IsBlock
unfolding block_in process_in count_in
block_in-valid w = at (position is_star w)
  where
    pid : (text : List ℕ) → IfSome (process_in text) (λ k. k < process_max)
    pid text = range-valid 0 63 (λ k. k < process_max) (unsigned_number 10 text) (λ n low high. omega arith)

    at : (star : Option ℕ) → IfSome (block_at star w) IsBlock
    at None = block_from-valid (process_in w) (Some 1) (pid w) (omega arith)
    at (Some star) =
        block_from-valid (process_in (take star w)) (count_in (drop (star + 1) w)) (pid (take star w))
        (range-valid 1 most_steps (λ k. 1 ≤ k) (unsigned_number 10 (drop (star + 1) w)) (λ n low high. low))

-- where each word is a block, these are what they write
blocks-all : (ws : List (List ℕ)) → ((k : ℕ) → k < length ws → is_bad (get_or ws k []) ≡ false)
    → (map block_in ws ≡ map Some (filter_map block_in ws)) × AllByRecursion IsBlock (filter_map block_in ws)
blocks-all [] good = (refl, tt)
blocks-all (w ∷ ws) good = go (block_in w) refl (good 0 (omega arith)) (blocks-all ws (λ k below. good (suc k) (omega arith)))
  where
    go : (o : Option Block) → block_in w ≡ o → is_none o ≡ false → (map block_in ws ≡ map Some (filter_map block_in ws)) × AllByRecursion IsBlock (filter_map block_in ws)
        → (map block_in (w ∷ ws) ≡ map Some (filter_map block_in (w ∷ ws))) × AllByRecursion IsBlock (filter_map block_in (w ∷ ws))
    go None e here rest = let never : ⊥ = cc in absurd never
    go (Some b) e here rest = (rw (e, rest.0) refl, rw e (subst (λ o. IfSome o IsBlock) e (block_in-valid w), rest.1))

-- what it says of blocks whether there are too many steps: i blocks come before the one with which there are
abbrev LongTells : ℕ → ℕ → List Block → Option ℕ → Type 0
LongTells at total bs None = total + total_of bs ≤ most_steps
LongTells at total bs (Some found) =
    (i : ℕ) × (found ≡ at + i) × (i < length bs) × (most_steps < total + total_of (take (i + 1) bs)) × (total + total_of (take i bs) ≤ most_steps)

block-more : (at total : ℕ) (b : Block) (bs : List Block) (o : Option ℕ) → LongTells (at + 1) (total + b.count) bs o → LongTells at total (b ∷ bs) o
block-more at total b bs None h = omega (arith, h, sum_by-cons (λ (d : Block). d.count) b bs)
block-more at total b bs (Some found) r =
    let e : suc r.0 + 1 ≡ suc (r.0 + 1) = omega arith in (
      suc r.0,
      omega (arith, r.1),
      omega (arith, r.2),
      rw e (omega (arith, r.3, sum_by-cons (λ (d : Block). d.count) b (take (r.0 + 1) bs))),
      omega (arith, r.4, sum_by-cons (λ (d : Block). d.count) b (take r.0 bs)),
    )

long-tells : (at total : ℕ) (bs : List Block) → total ≤ most_steps → LongTells at total bs (too_long at total bs)
unfolding too_long
long-tells at total [] few = omega arith
long-tells at total (b ∷ bs) few = go (nat_lt most_steps (total + b.count)) refl (long-tells (at + 1) (total + b.count) bs)
  where
    go : (t : Bool) → nat_lt most_steps (total + b.count) ≡ t → (total + b.count ≤ most_steps → LongTells (at + 1) (total + b.count) bs (too_long (at + 1) (total + b.count) bs))
        → LongTells at total (b ∷ bs) (cond t (Some at) (too_long (at + 1) (total + b.count) bs))
    go true e later = let above : most_steps < total + b.count = grind (arith, nat_tests) in (0, omega arith, omega arith, omega arith, omega arith)
    go false e later = block-more at total b bs (too_long (at + 1) (total + b.count) bs) (later (grind (arith, nat_tests)))

-- what the schedule of blocks says of them
abbrev BlocksTell : List Block → Result (List Block) SchedFault → Type 0
BlocksTell bs (Ok s) = IsSchedule s × (steps_of s ≡ steps_of bs)
BlocksTell bs (Err (BadBlock at)) = ⊥
BlocksTell bs (Err (TooLong at)) = IsFirstOver bs at
BlocksTell bs (Err NoMemory) = ⊥

blocks-tell : (bs : List Block) → AllByRecursion IsBlock bs → BlocksTell bs (schedule_of_blocks bs)
unfolding schedule_of_blocks
blocks-tell bs valid = go (too_long 1 0 bs) (long-tells 1 0 bs (omega arith))
  where
    go : (o : Option ℕ) → LongTells 1 0 bs o → BlocksTell bs (within o (joined_blocks bs))
    go None few = (record { valid = valid-joined bs valid; apart = apart-joined bs; within = omega (arith, total-joined bs, few) }, steps-joined bs)
    go (Some at) r =
        let here : at ≡ r.0 + 1 = omega (arith, r.1) in
        let before : at - 1 ≡ r.0 = omega (arith, r.1) in
        record { some = omega arith; within = omega (arith, r.2); here = rw here (omega (arith, r.3)); earlier = rw before (omega (arith, r.4)) }

-- what the reading of words as a schedule says of them
abbrev ReadingTells : List (List ℕ) → Result (List Block) SchedFault → Type 0
ReadingTells ws (Ok s) = IsSchedule s × ((blocks : List Block) × (map block_in ws ≡ map Some blocks) × (steps_of s ≡ steps_of blocks))
ReadingTells ws (Err (BadBlock at)) = IsFirstBad ws at
ReadingTells ws (Err (TooLong at)) = IsFirstTooLong ws at
ReadingTells ws (Err NoMemory) = ⊥

none-is : (o : Option Block) → is_none o ≡ true → o ≡ None
none-is x e = search rules

none-not : (o : Option Block) → ¬ (o ≡ None) → is_none o ≡ false
none-not x some = search rules

reading-tells : (ws : List (List ℕ)) → ReadingTells ws (reading_of_words ws)
unfolding reading_of_words blocks_of_words
reading-tells ws = elim (leb_tells (suc (position_or_len is_bad ws)) (length ws)) [
  | inl t ↦
      let bad : nat_lt (position_or_len is_bad ws) (length ws) ≡ true = t.0 in
      let at : position_or_len is_bad ws + 1 - 1 ≡ position_or_len is_bad ws = omega arith in
      rw bad (record {
        some = omega arith;
        within = omega (arith, t.1);
        here = subst (λ i. block_in (get_or ws i []) ≡ None) (sym at) (none-is _ (passes_at_first is_bad ws [] t.1));
        earlier = λ k below none. let good = fails_before_first is_bad ws k [] (omega arith) in let bad : is_bad (get_or ws k []) ≡ true = ap is_none none in cc;
      })
  | inr t ↦
      let none : nat_lt (position_or_len is_bad ws) (length ws) ≡ false = t.0 in
      let all = blocks-all ws (λ k below. fails_before_first is_bad ws k [] (omega (arith, t.1))) in
      rw none (made (filter_map block_in ws) (schedule_of_blocks (filter_map block_in ws)) all.0 (blocks-tell (filter_map block_in ws) all.1))
]
  where
    made : (bs : List Block) (read : Result (List Block) SchedFault) → map block_in ws ≡ map Some bs → BlocksTell bs read → ReadingTells ws read
    made bs (Ok s) all h = (h.0, (bs, all, h.1))
    made bs (Err (BadBlock at)) all h = absurd h
    made bs (Err (TooLong at)) all h = (bs, all, h)
    made bs (Err NoMemory) all h = h

-- the laws of reading

pub read_steps_lem : ReadSteps
read_steps_lem text s is = subst (ReadingTells (words text)) is (reading-tells (words text))

pub first_too_long_lem : FirstTooLong
first_too_long_lem text at is = subst (ReadingTells (words text)) is (reading-tells (words text))

pub first_bad_block_lem : FirstBadBlock
unfolding reading_of_words
first_bad_block_lem text at = (λ is. subst (ReadingTells (words text)) is (reading-tells (words text)), from)
  where
    from : IsFirstBad (words text) at → (blocks_of_words (words text) >>= schedule_of_blocks) ≡ Err (BadBlock at)
    from h =
        let bad = blocks-bad (words text) (at - 1) (omega (arith, h.some, h.within)) (ap is_none h.here) (λ k below. none-not _ (h.earlier k below)) in
        let same : at - 1 + 1 ≡ at = omega (arith, h.some) in
        rw (bad, same) refl

-- what an answer that gives the reading of a text says
pub gives_read : (r : Result (List Block) SchedFault) (text : List ℕ) → Gives (λ s. s) r (reading text) → IfOk r (λ s. reading text ≡ Ok s) × IfErr r (λ e. Fails e (reading text))
gives_read x text gives = search rules

pub gives_fault : (r : Result (List Block) SchedFault) (text : List ℕ) → Gives (λ s. s) r (reading text)
    → ((at : ℕ) → r ≡ Err (BadBlock at) → IsFirstBad (words text) at) × ((at : ℕ) → r ≡ Err (TooLong at) → IsFirstTooLong (words text) at)
gives_fault r text gives =
    let told = λ (x : Result (List Block) SchedFault) (is : r ≡ x). subst (λ x. Gives (λ (s : List Block). s) x (reading text)) is gives in
    (λ at is. (first_bad_block_lem text at).0 (told (Err (BadBlock at)) is), λ at is. first_too_long_lem text at (told (Err (TooLong at)) is))
