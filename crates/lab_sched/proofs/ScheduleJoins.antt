-- Joined blocks.
use Rattle.std.proofs.Common.{◌≡◌, ◌≢◌, ℕ, suc, zero, ◌+◌, ◌-◌, ◌<◌, ◌≤◌, true, false, List, [], ◌∷◌, ◌++◌, length, take, get_or, set, replicate, refl, ap, sym, ◌∙◌, append_assoc, append-nil, arith, inl, inr, rules}
use Rattle.std.specs.Prelude.{◌==◌}
use Rattle.std.specs.List.{AllByRecursion}
use Rattle.std.proofs.lemmas.List.{replicate-append-replicate, take_all, take_more, set_at, nil_from_length, length-take-le, get_or_default, length-replicate, replicate_more}
use Rattle.std.proofs.lemmas.List.Concat.{flat_map-append, length-flat_map}
use Rattle.std.proofs.lemmas.List.Sums.{sum_by-cons, sum_by_push}
use Rattle.std.proofs.lemmas.Bool.Decides.{nat_tests, eqb_tells}
use Rattle.lab_sched.specs.declared.schedule.Block.{Block}
use Rattle.lab_sched.specs.ScheduleLaws.{StepsTell}
use Rattle.lab_sched.specs.Schedules.{block, steps_of, total_of, before, joined_blocks, IsBlock, AreApart, IsSchedule, most_steps}
use Rattle.std.proofs.Math.Seq.{take-append_seam, get_or-append_seam}
use Rattle.lab_sched.specs.Private.Blocks.{IsResized}
use Rattle.std.proofs.lemmas.Grind.{common_steps}

pub is_same : (m n : ℕ) → m ≡ n → (m == n) ≡ true
is_same m n h = grind (arith, nat_tests)

pub is_other : (m n : ℕ) → m ≢ n → (m == n) ≡ false
is_other m n h = grind (arith, nat_tests)

-- what holds of a block before a schedule, by whether the two processes are the same
before-cases : (P : List Block → Type 0) (b c : Block) (rest : List Block) → (b.pid ≡ c.pid → P (block b.pid (b.count + c.count) ∷ rest)) → (b.pid ≢ c.pid → P (b ∷ c ∷ rest))
    → P (before b (c ∷ rest))
before-cases P b c rest same other = elim (eqb_tells b.pid c.pid) [ inl t ↦ rw t.0 (same t.1) | inr t ↦ rw t.0 (other t.1) ]

-- steps

steps-before : (b : Block) (bs : List Block) → steps_of (before b bs) ≡ replicate b.count b.pid ++ steps_of bs
unfolding steps_of
steps-before b [] = refl
steps-before b (c ∷ rest) = before-cases (λ bs. steps_of bs ≡ replicate b.count b.pid ++ steps_of (c ∷ rest)) b c rest
    (λ e. rw (← e, ← replicate-append-replicate b.count c.count b.pid) (append_assoc (replicate b.count b.pid) (replicate c.count b.pid) (steps_of rest))) (λ e. refl)

pub steps-joined : (bs : List Block) → steps_of (joined_blocks bs) ≡ steps_of bs
unfolding steps_of joined_blocks
steps-joined [] = refl
steps-joined (b ∷ rest) = steps-before b (joined_blocks rest) ∙ ap (λ s. replicate b.count b.pid ++ s) (steps-joined rest)

-- totals

total-before : (b : Block) (bs : List Block) → total_of (before b bs) ≡ b.count + total_of bs
total-before b [] = omega arith
total-before b (c ∷ rest) = grind (arith, common_steps, before-cases, sum_by-cons)

pub total-joined : (bs : List Block) → total_of (joined_blocks bs) ≡ total_of bs
unfolding joined_blocks
total-joined [] = refl
total-joined (b ∷ rest) =
    total-before b (joined_blocks rest) ∙ ap (λ n. b.count + n) (total-joined rest) ∙ sym (sum_by-cons (λ (d : Block). d.count) b rest)

pub length-steps : (bs : List Block) → length (steps_of bs) ≡ total_of bs
unfolding steps_of
length-steps bs = length-flat_map (λ (b : Block). replicate b.count b.pid) bs ∙ simp length-replicate

-- the normal form

apart-tail : (b : Block) (bs : List Block) → AreApart (b ∷ bs) → AreApart bs
apart-tail b x h = search rules

apart-before : (b : Block) (bs : List Block) → AreApart bs → AreApart (before b bs)
apart-before b x h = search rules

pub apart-joined : (bs : List Block) → AreApart (joined_blocks bs)
unfolding joined_blocks
apart-joined [] = tt
apart-joined (b ∷ rest) = apart-before b (joined_blocks rest) (apart-joined rest)

before-tail : (b : Block) (bs : List Block) → AreApart (b ∷ bs) → before b bs ≡ b ∷ bs
before-tail b x h = search rules

pub joined-apart : (bs : List Block) → AreApart bs → joined_blocks bs ≡ bs
unfolding joined_blocks
joined-apart [] h = refl
joined-apart (b ∷ bs) h = ap (before b) (joined-apart bs (apart-tail b bs h)) ∙ before-tail b bs h

-- a block at the end

joined-push_same : (front : List Block) (c b : Block) → c.pid ≡ b.pid → joined_blocks (front ++ c ∷ [] ++ b ∷ []) ≡ joined_blocks (front ++ block c.pid (c.count + b.count) ∷ [])
unfolding joined_blocks
joined-push_same [] c b e = rw (is_same c.pid b.pid e) refl
joined-push_same (x ∷ front) c b e = ap (before x) (joined-push_same front c b e)

pub apart-last : (front : List Block) (d : Block) (n : ℕ) → AreApart (front ++ d ∷ []) → AreApart (front ++ block d.pid n ∷ [])
apart-last [] d n h = tt
apart-last (x ∷ []) d n h = h
apart-last (x ∷ y ∷ front) d n h = (h.0, apart-last (y ∷ front) d n h.1)

pub apart-push : (front : List Block) (c b : Block) → AreApart (front ++ c ∷ []) → c.pid ≢ b.pid → AreApart (front ++ c ∷ [] ++ b ∷ [])
apart-push [] c b h e = (e, tt)
apart-push (x ∷ []) c b h e = (h.0, apart-push [] c b tt e)
apart-push (x ∷ y ∷ rest) c b h e = (h.0, apart-push (y ∷ rest) c b h.1 e)

-- joining what is joined already changes nothing

pub before-before : (b c : Block) (bs : List Block) → b.pid ≡ c.pid → before b (before c bs) ≡ before (block b.pid (b.count + c.count)) bs
before-before b c x e = search rules

joined-before : (b : Block) (zs ys : List Block) → joined_blocks (before b zs ++ ys) ≡ before b (joined_blocks (zs ++ ys))
unfolding joined_blocks
joined-before b [] ys = refl
joined-before b (c ∷ zs) ys = before-cases (λ bs. joined_blocks (bs ++ ys) ≡ before b (before c (joined_blocks (zs ++ ys)))) b c zs
    (λ e. sym (before-before b c (joined_blocks (zs ++ ys)) e)) (λ e. refl)

pub joined-joined : (xs ys : List Block) → joined_blocks (joined_blocks xs ++ ys) ≡ joined_blocks (xs ++ ys)
unfolding joined_blocks
joined-joined [] ys = refl
joined-joined (b ∷ rest) ys = joined-before b (joined_blocks rest) ys ∙ ap (before b) (joined-joined rest ys)

-- valid blocks

valid-before : (b : Block) (bs : List Block) → IsBlock b → AllByRecursion IsBlock bs → AllByRecursion IsBlock (before b bs)
valid-before b x h hs = search rules

pub valid-joined : (bs : List Block) → AllByRecursion IsBlock bs → AllByRecursion IsBlock (joined_blocks bs)
unfolding joined_blocks
valid-joined [] h = tt
valid-joined (b ∷ rest) h = valid-before b (joined_blocks rest) h.0 (valid-joined rest h.1)

pub valid-push : (bs : List Block) (b : Block) → AllByRecursion IsBlock bs → IsBlock b → AllByRecursion IsBlock (bs ++ b ∷ [])
valid-push x b h k = grind (arith, common_steps)

pub total-push : (bs : List Block) (b : Block) → total_of (joined_blocks (bs ++ b ∷ [])) ≡ total_of bs + b.count
total-push bs b = total-joined (bs ++ b ∷ []) ∙ sum_by_push (λ (d : Block). d.count) bs b

pub steps-append : (xs ys : List Block) → steps_of (xs ++ ys) ≡ steps_of xs ++ steps_of ys
unfolding steps_of
steps-append xs ys = flat_map-append (λ (b : Block). replicate b.count b.pid) xs ys

pub steps-one : (b : Block) → steps_of (b ∷ []) ≡ replicate b.count b.pid
unfolding steps_of
steps-one b = append-nil (replicate b.count b.pid)

pub steps-push : (bs : List Block) (b : Block) → steps_of (joined_blocks (bs ++ b ∷ [])) ≡ steps_of bs ++ replicate b.count b.pid
steps-push bs b = steps-joined (bs ++ b ∷ []) ∙ steps-append bs (b ∷ []) ∙ ap (λ s. steps_of bs ++ s) (steps-one b)

pub schedule-push : (bs : List Block) (b : Block) → IsSchedule bs → IsBlock b → total_of bs + b.count ≤ most_steps → IsSchedule (joined_blocks (bs ++ b ∷ []))
schedule-push bs b h k room = search (rules, valid-joined, valid-push, apart-joined, total-push)

-- the last block of a Vec
last-split : (xs : List Block) (n : ℕ) (d : Block) → length xs ≡ n → 0 < n → d ≡ get_or xs (n - 1) d → xs ≡ take (n - 1) xs ++ d ∷ []
last-split xs n d l h e = search (rules, take_all, take_more)

-- two reads of one element
pub same_read : (xs : List Block) (i : ℕ) (d e : Block) → i < length xs → d ≡ get_or xs i d → e ≡ get_or xs i e → d ≡ e
same_read xs i d e h p q = p ∙ get_or_default xs i d e h ∙ sym q

pub joined-set : (xs : List Block) (n : ℕ) (d b : Block) → length xs ≡ n → 0 < n → AreApart xs → d ≡ get_or xs (n - 1) d → d.pid ≡ b.pid
    → set xs (n - 1) (block d.pid (d.count + b.count)) ≡ joined_blocks (xs ++ b ∷ [])
joined-set xs n d b l h apart e same = grind (arith, common_steps, last-split, set_at, length-take-le, joined-push_same, joined-apart, apart-last)

pub joined-apart_push : (xs : List Block) (n : ℕ) (d b : Block) → length xs ≡ n → 0 < n → AreApart xs → d ≡ get_or xs (n - 1) d → d.pid ≢ b.pid
    → xs ++ b ∷ [] ≡ joined_blocks (xs ++ b ∷ [])
joined-apart_push xs n d b l h apart e other = grind (arith, common_steps, last-split, joined-apart, apart-push)

pub joined-first : (xs : List Block) (b : Block) → length xs ≡ 0 → xs ++ b ∷ [] ≡ joined_blocks (xs ++ b ∷ [])
joined-first xs b l = rw (nil_from_length xs l) (sym (joined-apart (b ∷ []) tt))

-- blocks from steps
unfoldable blocks_of : List ℕ → List Block
blocks_of [] = []
blocks_of (p ∷ ps) = before (block p 1) (blocks_of ps)

blocks_of-replicate : (n p : ℕ) (ps : List ℕ) → blocks_of (replicate (suc n) p ++ ps) ≡ before (block p (suc n)) (blocks_of ps)
unfolding blocks_of
blocks_of-replicate zero p ps = refl
blocks_of-replicate (suc n) p ps =
    ap (before (block p 1)) (blocks_of-replicate n p ps)
    ∙ before-before (block p 1) (block p (suc n)) (blocks_of ps) refl
    ∙ ap (λ k. before (block p k) (blocks_of ps)) (omega arith)

blocks_of-some : (b : Block) (ps : List ℕ) → 1 ≤ b.count → blocks_of (replicate b.count b.pid ++ ps) ≡ before b (blocks_of ps)
blocks_of-some b ps h = search (rules, blocks_of-replicate)

blocks_of-steps : (bs : List Block) → AllByRecursion IsBlock bs → AreApart bs → blocks_of (steps_of bs) ≡ bs
unfolding steps_of blocks_of
blocks_of-steps [] v h = refl
blocks_of-steps (b ∷ rest) v h =
    blocks_of-some b (steps_of rest) v.0.some ∙ ap (before b) (blocks_of-steps rest v.1 (apart-tail b rest h)) ∙ before-tail b rest h

-- schedules of the same steps are the same
pub steps_tell_lem : StepsTell
steps_tell_lem xs ys h k e = search (rules, blocks_of-steps)

-- the last block of a schedule, and its last step

-- lists with equal ends
same_ends : (xs ys : List ℕ) (x y : ℕ) → xs ++ x ∷ [] ≡ ys ++ y ∷ [] → (xs ≡ ys) × (x ≡ y)
same_ends xs ys x y e = grind (arith, common_steps, take-append_seam, get_or-append_seam)

-- the front and the last block of a schedule

pub valid-ends : (front : List Block) (d : Block) → AllByRecursion IsBlock (front ++ d ∷ []) → AllByRecursion IsBlock front × IsBlock d
valid-ends [] d h = (tt, h.0)
valid-ends (x ∷ front) d h = let k = valid-ends front d h.1 in ((h.0, k.0), k.1)

apart-front : (front : List Block) (d : Block) → AreApart (front ++ d ∷ []) → AreApart front
apart-front [] d h = tt
apart-front (x ∷ []) d h = tt
apart-front (x ∷ y ∷ front) d h = (h.0, apart-front (y ∷ front) d h.1)

pub total-last : (front : List Block) (d : Block) → total_of (front ++ d ∷ []) ≡ total_of front + d.count
total-last front d = sum_by_push (λ (b : Block). b.count) front d

-- n steps in the place of the last one

resized-steps : (front : List Block) (d : Block) (n p : ℕ) (ps : List ℕ) → 1 ≤ d.count → steps_of (front ++ d ∷ []) ≡ ps ++ p ∷ []
    → steps_of front ++ replicate (d.count - 1 + n) d.pid ≡ ps ++ replicate n p
resized-steps front d n p ps some e =
    let k : ℕ = d.count - 1 in
    let one : replicate d.count d.pid ≡ replicate k d.pid ++ d.pid ∷ [] = ap (λ m. replicate m d.pid) (omega arith) ∙ sym (replicate_more k d.pid) in
    let all : steps_of (front ++ d ∷ []) ≡ (steps_of front ++ replicate k d.pid) ++ d.pid ∷ [] =
    steps-append front (d ∷ []) ∙ ap (λ s. steps_of front ++ s) (steps-one d ∙ one) ∙ sym (append_assoc (steps_of front) (replicate k d.pid) (d.pid ∷ [])) in
    let ends = same_ends (steps_of front ++ replicate k d.pid) ps d.pid p (sym all ∙ e) in
    ap (λ s. steps_of front ++ s) (sym (replicate-append-replicate k n d.pid)) ∙ sym (append_assoc (steps_of front) (replicate k d.pid) (replicate n d.pid))
    ∙ ap (λ s. s ++ replicate n d.pid) ends.0 ∙ ap (λ q. ps ++ replicate n q) ends.1

-- a schedule of the front, and of so many steps of the last block's process
resized : (front : List Block) (d : Block) (n : ℕ) (ys : List Block) → IsSchedule (front ++ d ∷ []) → IsSchedule ys → steps_of ys ≡ steps_of front ++ replicate (d.count - 1 + n) d.pid
    → total_of ys ≡ total_of front + (d.count - 1 + n) → IsResized (front ++ d ∷ []) ys n
resized front d n ys h schedule steps total = search (rules, valid-ends, total-last, resized-steps)

-- none are left of the last block
pub resized_none : (front : List Block) (d : Block) (n : ℕ) → IsSchedule (front ++ d ∷ []) → d.count - 1 + n ≡ 0 → IsResized (front ++ d ∷ []) front n
resized_none front d n h none =
    let total = total-last front d in
    resized front d n front h (record { valid = (valid-ends front d h.valid).0; apart = apart-front front d h.apart; within = omega (arith, h.within) })
    (sym (ap (λ k. steps_of front ++ replicate k d.pid) none ∙ append-nil (steps_of front))) (omega arith)

-- some are left
pub resized_some : (front : List Block) (d : Block) (n : ℕ) → IsSchedule (front ++ d ∷ []) → total_of (front ++ d ∷ []) + n ≤ most_steps + 1 → 0 < d.count - 1 + n
    → IsResized (front ++ d ∷ []) (front ++ block d.pid (d.count - 1 + n) ∷ []) n
resized_some front d n h room some = search (rules, valid-ends, total-last, resized, valid-push, apart-last, steps-append, steps-one)
