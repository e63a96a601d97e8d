-- Steps in blocks.
use native.Mathlib.Numerals.{unary_clauses}
use Rattle.std.proofs.Common.{◌≡◌, ℕ, zero, suc, ◌+◌, ◌-◌, ◌++◌, List, [], ◌∷◌, replicate, take, length, min, refl, sym, ap, ◌∙◌, arith, append_assoc, append-nil}
use Rattle.std.proofs.lemmas.List.{length-append, length-replicate}
use Rattle.lab_sched.specs.declared.schedule.Block.{Block}
use Rattle.lab_sched.specs.Schedules.{steps_of}
use Rattle.lab_sched.proofs.ScheduleRuns.{steps_of-append}

pub steps-cons : (b : Block) (bs : List Block) → steps_of (b ∷ bs) ≡ replicate b.count b.pid ++ steps_of bs
unfolding steps_of
steps-cons b bs = refl

-- one block alone
pub one_block : (b : Block) → steps_of (b ∷ []) ≡ replicate b.count b.pid
unfolding steps_of
one_block b = append-nil (replicate b.count b.pid)

pub push-block : (xs ys : List Block) (b : Block) → ys ≡ xs ++ b ∷ [] → steps_of ys ≡ steps_of xs ++ replicate b.count b.pid
push-block xs ys b is = ap steps_of is ∙ steps_of-append xs (b ∷ []) ∙ ap (λ zs. steps_of xs ++ zs) (one_block b)

pub nothing-taken : (xs : List Block) (zs : List ℕ) → xs ≡ [] → steps_of xs ++ zs ≡ zs
unfolding steps_of
nothing-taken xs zs is = ap (λ ys. steps_of ys ++ zs) is

take-block : (c n p : ℕ) (rest : List ℕ) → take n (replicate c p ++ rest) ≡ replicate (min c n) p ++ take (n - min c n) rest
take-block zero n p rest = simp unary_clauses refl
take-block (suc c) zero p rest = simp unary_clauses refl
take-block (suc c) (suc n) p rest = simp unary_clauses (ap (λ ys. p ∷ ys) (take-block c n p rest))

-- the first steps of a block, and those of the blocks behind it
pub take-more : (b : Block) (rest : List Block) (xs ys all : List ℕ) (left k : ℕ)
    → k ≡ min b.count left → ys ≡ xs ++ replicate k b.pid
    → xs ++ take left (steps_of (b ∷ rest)) ≡ all → ys ++ take (left - k) (steps_of rest) ≡ all
take-more b rest xs ys all left k k-is ys-is is =
    ap (λ zs. zs ++ take (left - k) (steps_of rest)) ys-is
    ∙ append_assoc xs (replicate k b.pid) (take (left - k) (steps_of rest))
    ∙ ap (λ m. xs ++ (replicate m b.pid ++ take (left - m) (steps_of rest))) k-is
    ∙ ap (λ zs. xs ++ zs) (sym (take-block b.count left b.pid (steps_of rest)) ∙ ap (take left) (sym (steps-cons b rest)))
    ∙ is

pub take-none : (left : ℕ) → take left (steps_of []) ≡ []
unfolding steps_of
take-none zero = refl
take-none (suc left) = refl

-- the steps of a block and of those behind it
pub count-more : (b : Block) (left rest : List Block) (n all : ℕ) → left ≡ b ∷ rest → n + length (steps_of left) ≡ all → (n + b.count) + length (steps_of rest) ≡ all
count-more b left rest n all cut is =
    let here : length (steps_of left) ≡ b.count + length (steps_of rest) =
    ap (λ bs. length (steps_of bs)) cut ∙ ap length (steps-cons b rest) ∙ length-append (replicate b.count b.pid) (steps_of rest) ∙ ap (λ m. m + length (steps_of rest)) (length-replicate b.count b.pid) in
    omega (arith, here, is)

pub count-none : (left : List Block) (n all : ℕ) → left ≡ [] → n + length (steps_of left) ≡ all → n ≡ all
unfolding steps_of
count-none left n all none is = let here : n + length (steps_of []) ≡ all = (rw none at is) in omega (arith, here)

pub steps_both : (xs ys : List Block) → steps_of (xs ++ ys) ≡ steps_of xs ++ steps_of ys
steps_both xs ys = steps_of-append xs ys
