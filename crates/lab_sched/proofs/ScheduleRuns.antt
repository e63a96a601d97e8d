-- The steps of a schedule, block by block, and how far a run of them came.
use Rattle.std.proofs.Common.{ℕ, suc, ◌+◌, ◌≡◌, ◌<◌, ◌≤◌, ◌++◌, List, [], ◌∷◌, refl, sym, ap, ◌∙◌, arith, length, take, drop, get_or, replicate, drop-cons}
use Rattle.std.proofs.Math.Seq.{take-append-add}
use Rattle.std.proofs.lemmas.List.{take-append-drop, take-append-le, take-replicate, take_more, get_or-replicate, length-replicate, flat_map_more}
use Rattle.std.proofs.lemmas.List.Concat.{get_or-flat_map}
use Rattle.std.proofs.lemmas.List.Folds.{length-flat_map-take}
use Rattle.lab_sched.specs.declared.schedule.Block.{Block}
use Rattle.lab_sched.specs.Schedules.{steps_of, IsSchedule, most_steps}
use Rattle.lab_sched.proofs.ScheduleJoins.{length-steps, steps-append}
use Rattle.lab_sched.specs.Worlds.{WorldState, run}
use Rattle.lab_sched.proofs.Runs.{run-append}

pub steps_of-append : (xs ys : List Block) → steps_of (xs ++ ys) ≡ steps_of xs ++ steps_of ys
steps_of-append xs ys = steps-append xs ys

-- the steps before block i, those of block i, and the rest
pub steps-split : (bs : List Block) (i : ℕ) (d : Block) → i < length bs
    → steps_of bs ≡ steps_of (take i bs) ++ (replicate (get_or bs i d).count (get_or bs i d).pid ++ steps_of (drop (suc i) bs))
unfolding steps_of
steps-split bs i d within =
    ap steps_of (sym (take-append-drop i bs) ∙ ap (λ ys. take i bs ++ ys) (drop-cons bs i d within)) ∙ steps_of-append (take i bs) (get_or bs i d ∷ drop (suc i) bs)

-- the steps that were taken before a stop in block i
taken-steps : (bs : List Block) (i k done : ℕ) (d : Block) → i < length bs → k < (get_or bs i d).count → done ≡ length (steps_of (take i bs))
    → take (done + k) (steps_of bs) ≡ steps_of (take i bs) ++ replicate k (get_or bs i d).pid
taken-steps bs i k done d within less is =
    let b : Block = get_or bs i d in
    ap (λ n. take (n + k) (steps_of bs)) is ∙ ap (take (length (steps_of (take i bs)) + k)) (steps-split bs i d within)
    ∙ take-append-add (steps_of (take i bs)) (replicate b.count b.pid ++ steps_of (drop (suc i) bs)) k
    ∙ ap (λ ps. steps_of (take i bs) ++ ps) (take-append-le k (replicate b.count b.pid) _ (omega (arith, length-replicate b.count b.pid)) ∙ take-replicate k b.count b.pid (omega arith))

-- the process of the step at which a run stopped
pub next-step : (bs : List Block) (i k done : ℕ) (d : Block) → i < length bs → k < (get_or bs i d).count → done ≡ length (steps_of (take i bs))
    → get_or (steps_of bs) (done + k) 0 ≡ (get_or bs i d).pid
unfolding steps_of
next-step bs i k done d within less is =
    let b : Block = get_or bs i d in
    ap (λ n. get_or (steps_of bs) (n + k) 0) is
    ∙ get_or-flat_map (λ (x : Block). replicate x.count x.pid) bs i k d 0 within (omega (arith, length-replicate b.count b.pid)) ∙ get_or-replicate b.count k b.pid 0 less

pub steps_of-none : steps_of [] ≡ []
unfolding steps_of
steps_of-none = refl

-- the steps up to and with block i
pub steps-more : (bs : List Block) (i : ℕ) (d : Block) → i < length bs → steps_of (take (i + 1) bs) ≡ steps_of (take i bs) ++ replicate (get_or bs i d).count (get_or bs i d).pid
unfolding steps_of
steps-more bs i d within = ap steps_of (take_more bs i d within) ∙ sym (flat_map_more (λ (b : Block). replicate b.count b.pid) [] (take i bs) (get_or bs i d))

-- a run of one block more
pub ran-more : (w v u : WorldState) (bs : List Block) (i : ℕ) (d : Block) → i < length bs → v ≡ run w (steps_of (take i bs)) → u ≡ run v (replicate (get_or bs i d).count (get_or bs i d).pid) → u ≡ run w (steps_of (take (i + 1) bs))
ran-more w v u bs i d within v-is u-is =
    let b : Block = get_or bs i d in
    u-is ∙ ap (λ x. run x (replicate b.count b.pid)) v-is ∙ sym (run-append w (steps_of (take i bs)) (replicate b.count b.pid))
    ∙ ap (run w) (sym (steps-more bs i d within))

-- a run that stopped in block i
pub ran-until : (w v u : WorldState) (bs : List Block) (i k done : ℕ) (d : Block) → i < length bs → k < (get_or bs i d).count → done ≡ length (steps_of (take i bs))
    → v ≡ run w (steps_of (take i bs)) → u ≡ run v (replicate k (get_or bs i d).pid) → u ≡ run w (take (done + k) (steps_of bs))
ran-until w v u bs i k done d within less is v-is u-is =
    let b : Block = get_or bs i d in
    u-is ∙ ap (λ x. run x (replicate k b.pid)) v-is ∙ sym (run-append w (steps_of (take i bs)) (replicate k b.pid))
    ∙ ap (run w) (sym (taken-steps bs i k done d within less is))

-- the steps before a block and those of the block are among all
pub steps-among : (bs : List Block) (i : ℕ) (d : Block) → i < length bs → length (steps_of (take i bs)) + (get_or bs i d).count ≤ length (steps_of bs)
unfolding steps_of
steps-among bs i d within = omega (arith, length-flat_map-take (λ (b : Block). replicate b.count b.pid) bs i d within, length-replicate (get_or bs i d).count (get_or bs i d).pid)

pub steps-few : (bs : List Block) → IsSchedule bs → length (steps_of bs) ≤ most_steps
steps-few bs is = omega (arith, length-steps bs, is.within)
