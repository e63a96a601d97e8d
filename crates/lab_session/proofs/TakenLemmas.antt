-- Steps in a row as blocks.
use Rattle.std.proofs.Common.{◌≡◌, ℕ, zero, suc, ◌+◌, ◌<◌, ◌==◌, ◌++◌, List, [], ◌∷◌, Bool, true, false, replicate, refl, sym, ap, ◌∙◌, arith, append-nil, append_assoc}
use Rattle.std.specs.Prelude.{flat_map}
use Rattle.std.proofs.lemmas.List.{replicate-append-replicate}
use Rattle.std.proofs.lemmas.Bool.Decides.{nat_tests}
use Rattle.lab_sched.specs.declared.schedule.Block.{Block}
use Rattle.lab_sched.specs.Schedules.{block, before, steps_of}
use Rattle.lab_session.specs.Taken.{blocks_of, spaced_text, blocks_text}
use Rattle.lab_session.specs.Private.Runs.{run_text}
use Rattle.lab_session.proofs.BlockLemmas.{steps-cons}

-- steps of a process and more of them
pub replicate-sum : (n m p : ℕ) (xs : List ℕ) → replicate n p ++ (replicate m p ++ xs) ≡ replicate (n + m) p ++ xs
replicate-sum n m p xs = sym (append_assoc (replicate n p) (replicate m p) xs) ∙ ap (λ ys. ys ++ xs) (replicate-append-replicate n m p)

same-process : (p : ℕ) → (p == p) ≡ true
same-process p = grind (arith, nat_tests)

-- whether blocks don't begin with this process
abbrev pub BeginsElse : ℕ → List Block → Type 0
BeginsElse p [] = Unit {0}
BeginsElse p (b ∷ bs) = (p == b.pid) ≡ false

before-else : (p : ℕ) (bs : List Block) → BeginsElse p bs → before (block p 1) bs ≡ block p 1 ∷ bs
before-else p [] e = refl
before-else p (b ∷ bs) e = rw e refl

-- steps of one process before others
one-run : (n p : ℕ) (xs : List ℕ) → BeginsElse p (blocks_of xs) → blocks_of (replicate (suc n) p ++ xs) ≡ block p (suc n) ∷ blocks_of xs
unfolding blocks_of
one-run zero p xs e = before-else p (blocks_of xs) e
one-run (suc n) p xs e =
    let sum : 1 + suc n ≡ suc (suc n) = omega arith in
    ap (before (block p 1)) (one-run n p xs e) ∙ rw (same-process p) (ap (λ k. block p k ∷ blocks_of xs) sum)

before-first : (p q : ℕ) (bs : List Block) → (p == q) ≡ false → BeginsElse p (before (block q 1) bs)
before-first p q [] e = e
before-first p q (b ∷ bs) e = by (q == b.pid) refl
  where
    by : (s : Bool) → (q == b.pid) ≡ s → BeginsElse p (before (block q 1) (b ∷ bs))
    by true h = rw h e
    by false h = rw h e

else-run : (p q n : ℕ) (xs : List ℕ) → (p == q) ≡ false → 0 < n → BeginsElse p (blocks_of (replicate n q ++ xs))
unfolding blocks_of
else-run p q zero xs e h = absurd (omega (arith, h))
else-run p q (suc n) xs e h = before-first p q (blocks_of (replicate n q ++ xs)) e

text-run : (n p : ℕ) (xs : List ℕ) → BeginsElse p (blocks_of xs) → blocks_text (replicate n p ++ xs) ≡ run_text p n ++ blocks_text xs
text-run zero p xs e = refl
text-run (suc n) p xs e =
    let some : (suc n == 0) ≡ false = grind (arith, nat_tests) in
    rw some (ap (flat_map spaced_text) (one-run n p xs e))

-- the same text, steps and process
pub same-all : (s t : List ℕ) (n m p q : ℕ) (rest : List Block) → s ≡ t → n ≡ m → p ≡ q
    → s ++ blocks_text (replicate n p ++ steps_of rest) ≡ t ++ blocks_text (replicate m q ++ steps_of rest)
same-all s t n m p q rest text count process =
    ap (λ u. u ++ blocks_text (replicate n p ++ steps_of rest)) text
    ∙ ap (λ k. t ++ blocks_text (replicate k p ++ steps_of rest)) count
    ∙ ap (λ r. t ++ blocks_text (replicate m r ++ steps_of rest)) process

-- a block of another process behind steps
pub other-run : (text new all : List ℕ) (n p : ℕ) (b : Block) (rest : List Block) → (b.pid == p) ≡ false → 0 < b.count → new ≡ text ++ run_text p n
    → text ++ blocks_text (replicate n p ++ steps_of (b ∷ rest)) ≡ all → new ++ blocks_text (replicate b.count b.pid ++ steps_of rest) ≡ all
other-run text new all n p b rest e some new-is is =
    let other : (p == b.pid) ≡ false = grind (arith, nat_tests, e) in
    let xs = replicate b.count b.pid ++ steps_of rest in
    ap (λ t. t ++ blocks_text xs) new-is ∙ append_assoc text (run_text p n) (blocks_text xs)
    ∙ ap (λ t. text ++ t) (sym (text-run n p xs (else-run p b.pid b.count (steps_of rest) other some)))
    ∙ ap (λ ys. text ++ blocks_text (replicate n p ++ ys)) (sym (steps-cons b rest)) ∙ is

-- a block of the same process behind steps
pub same-run : (text all : List ℕ) (n m p : ℕ) (b : Block) (rest : List Block) → b.pid ≡ p → m ≡ n + b.count
    → text ++ blocks_text (replicate n p ++ steps_of (b ∷ rest)) ≡ all → text ++ blocks_text (replicate m p ++ steps_of rest) ≡ all
same-run text all n m p b rest e sum is =
    ap (λ k. text ++ blocks_text (replicate k p ++ steps_of rest)) sum
    ∙ ap (λ ys. text ++ blocks_text ys) (sym (replicate-sum n b.count p (steps_of rest)))
    ∙ ap (λ q. text ++ blocks_text (replicate n p ++ (replicate b.count q ++ steps_of rest))) (sym e)
    ∙ ap (λ ys. text ++ blocks_text (replicate n p ++ ys)) (sym (steps-cons b rest)) ∙ is

-- a block without steps
pub no-run : (text all : List ℕ) (n p : ℕ) (b : Block) (rest : List Block) → b.count ≡ 0
    → text ++ blocks_text (replicate n p ++ steps_of (b ∷ rest)) ≡ all → text ++ blocks_text (replicate n p ++ steps_of rest) ≡ all
no-run text all n p b rest none is =
    let nothing : steps_of (b ∷ rest) ≡ steps_of rest = steps-cons b rest ∙ ap (λ k. replicate k b.pid ++ steps_of rest) none in
    ap (λ ys. text ++ blocks_text (replicate n p ++ ys)) (sym nothing) ∙ is

-- the last block
pub last-run : (text new all : List ℕ) (n p : ℕ) → new ≡ text ++ run_text p n → text ++ blocks_text (replicate n p ++ steps_of []) ≡ all → new ≡ all
unfolding steps_of blocks_of
last-run text new all n p new-is is =
    new-is ∙ ap (λ t. text ++ t) (sym (append-nil (run_text p n)) ∙ sym (text-run n p [] tt)) ∙ is
