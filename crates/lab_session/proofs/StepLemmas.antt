-- Steps of a process, and which of them have an effect.
use Rattle.std.proofs.Common.{◌≡◌, ℕ, ◌+◌, ◌++◌, List, [], ◌∷◌, Bool, true, false, replicate, slice_get, refl, sym, ap, ◌∙◌, append_assoc}
use Rattle.std.proofs.lemmas.List.{replicate_more}
use Rattle.lab_sched.specs.Worlds.{WorldState, StepEffect, nothing, local_step, kernel_step, step_effect_in, step, after, run}
use Rattle.lab_sched.specs.Held.{asked_by, told_in}
use Rattle.lab_sched.proofs.Runs.{told_nothing, nothing_told}
use Rattle.lab_sched.specs.declared.stepped.Stepped.TheVariants.{Same}
use Rattle.lab_session.specs.Sessions.{effective}
use Rattle.lab_sched.specs.Verdicts.{is_nothing}

pub nothing-from : (w : WorldState) (pid : ℕ) → told_in w pid ≡ Same → is_nothing (step_effect_in w pid) ≡ true
nothing-from w pid e = ap is_nothing (told_nothing (asked_by (slice_get w.processes pid)) (step_effect_in w pid) e)

some-effect : (t : StepEffect) → (t ≡ nothing → ⊥) → is_nothing t ≡ false
some-effect nothing e = absurd (e refl)
some-effect (local_step n) e = refl
some-effect (kernel_step m c a) e = refl

pub something-from : (w : WorldState) (pid : ℕ) → (told_in w pid ≡ Same → ⊥) → is_nothing (step_effect_in w pid) ≡ false
something-from w pid e = some-effect (step_effect_in w pid) (λ none. e (nothing_told w pid none))

pub stays : (w : WorldState) (pid : ℕ) (t : StepEffect) → is_nothing t ≡ true → after w pid t ≡ w
stays w pid nothing e = refl
stays w pid (local_step n) e = cc
stays w pid (kernel_step m c a) e = cc

-- one more of the same at the front of the rest
pub replicate-more : (n p : ℕ) (xs : List ℕ) → replicate (n + 1) p ++ xs ≡ replicate n p ++ p ∷ xs
replicate-more n p xs = sym (ap (λ ys. ys ++ xs) (replicate_more n p)) ∙ append_assoc (replicate n p) (p ∷ []) xs

pub run-same : (w : WorldState) (xs ys : List ℕ) → run w (xs ++ ys) ≡ run (run w xs) ys
unfolding run
run-same w [] ys = refl
run-same w (x ∷ xs) ys = run-same (step w x) xs ys

-- a step that did nothing
pub step-same : (pid : ℕ) (w : WorldState) → told_in w pid ≡ Same → step w pid ≡ w
step-same pid w e = stays w pid (step_effect_in w pid) (nothing-from w pid e)

pub run-start : (w : WorldState) → w ≡ run w []
unfolding run
run-start w = refl

-- effective steps in two parts
pub effective-append : (w : WorldState) (xs ys : List ℕ) → effective w (xs ++ ys) ≡ effective w xs ++ effective (run w xs) ys
unfolding effective run
effective-append w [] ys = refl
effective-append w (p ∷ xs) ys = by (is_nothing (step_effect_in w p)) refl (effective-append w xs ys) (effective-append (step w p) xs ys)
  where
    by : (b : Bool) → is_nothing (step_effect_in w p) ≡ b → effective w (xs ++ ys) ≡ effective w xs ++ effective (run w xs) ys
        → effective (step w p) (xs ++ ys) ≡ effective (step w p) xs ++ effective (run (step w p) xs) ys → effective w (p ∷ (xs ++ ys)) ≡ effective w (p ∷ xs) ++ effective (run (step w p) xs) ys
    by true e here there =
        let same : step w p ≡ w = stays w p (step_effect_in w p) e in
        rw e (here ∙ ap (λ v. effective w xs ++ effective (run v xs) ys) (sym same))
    by false e here there = rw e (ap (λ zs. p ∷ zs) there)
