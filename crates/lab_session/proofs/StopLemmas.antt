-- Steps of a process up to a stop.
use Rattle.std.proofs.Common.{◌≡◌, ℕ, zero, suc, ◌+◌, ◌-◌, ◌<◌, ◌++◌, List, [], ◌∷◌, Option, Some, None, true, false, replicate, refl, sym, ap, ◌∙◌, arith, append-nil}
use Rattle.lab_sched.specs.Worlds.{WorldState, step_effect_in, step, run}
use Rattle.lab_sched.specs.Held.{told_in}
use Rattle.lab_sched.specs.Verdicts.{is_nothing}
use Rattle.lab_sched.specs.declared.stepped.Stepped.TheVariants.{Same}
use Rattle.lab_session.specs.declared.marks.Mark.{Mark}
use Rattle.lab_session.specs.Sessions.{effective}
use Rattle.lab_session.specs.Stops.{is_stop, steps_to_stop, stopped_process}
use Rattle.lab_session.proofs.StepLemmas.{nothing-from, something-from, replicate-more, stays}

-- the steps with an effect, the process that stopped, and the world
abbrev pub Went : Type 0
Went = List ℕ × Option ℕ × WorldState

-- what steps come to
abbrev pub went : List Mark → WorldState → List ℕ → Went
went ms w ps = (effective w (steps_to_stop ms w ps), stopped_process ms w ps, run w (steps_to_stop ms w ps))

-- the same behind other steps
abbrev pub behind : List ℕ → Went → Went
behind xs t = (xs ++ t.0, t.1, t.2)

abbrev pub to_the_end : List ℕ → WorldState → Went
to_the_end xs w = (xs, None, w)

abbrev pub to_a_stop : ℕ → List ℕ → WorldState → Went
to_a_stop p xs w = (xs, Some p, w)

went-none : (ms : List Mark) (w : WorldState) → went ms w [] ≡ to_the_end [] w
unfolding effective steps_to_stop stopped_process run
went-none ms w = refl

-- a step without effect
went-idle : (ms : List Mark) (p : ℕ) (w : WorldState) (ps : List ℕ) → is_nothing (step_effect_in w p) ≡ true → went ms w (p ∷ ps) ≡ went ms w ps
unfolding effective steps_to_stop stopped_process run
went-idle ms p w ps e =
    let at_end : WorldState → Went = λ v. (effective w (steps_to_stop ms v ps), stopped_process ms v ps, run v (steps_to_stop ms v ps)) in
    let same : step w p ≡ w = stays w p (step_effect_in w p) e in
    rw e (ap at_end same)

-- a step that is a stop
went-met : (ms : List Mark) (p : ℕ) (w : WorldState) (ps : List ℕ) → is_nothing (step_effect_in w p) ≡ false → is_stop ms p w ≡ true
    → went ms w (p ∷ ps) ≡ to_a_stop p (p ∷ []) (step w p)
unfolding effective steps_to_stop stopped_process run
went-met ms p w ps e met = rw (e, met) refl

-- a step that is none
went-more : (ms : List Mark) (p : ℕ) (w : WorldState) (ps : List ℕ) → is_nothing (step_effect_in w p) ≡ false → is_stop ms p w ≡ false
    → went ms w (p ∷ ps) ≡ behind (p ∷ []) (went ms (step w p) ps)
unfolding effective steps_to_stop stopped_process run
went-more ms p w ps e met = rw (e, met) refl

-- where a step of a process has no effect, none of n does
pub went-rests : (ms : List Mark) (p : ℕ) (w : WorldState) (n : ℕ) → is_nothing (step_effect_in w p) ≡ true → went ms w (replicate n p) ≡ to_the_end [] w
went-rests ms p w zero e = went-none ms w
went-rests ms p w (suc n) e = went-idle ms p w (replicate n p) e ∙ went-rests ms p w n e

-- one step more before the rest
behind-more : (i p : ℕ) (t : Went) → behind (replicate (i + 1) p) t ≡ behind (replicate i p) (behind (p ∷ []) t)
behind-more i p t =
    let with_those : List ℕ → Went = λ xs. (xs, t.1, t.2) in
    ap with_those (replicate-more i p t.0)

-- nothing behind the steps
behind-end : (xs : List ℕ) (w : WorldState) → to_the_end xs w ≡ behind xs (to_the_end [] w)
behind-end xs w = ap (λ ys. to_the_end ys w) (sym (append-nil xs))

one-more : (n i : ℕ) → i < n → n - i ≡ suc (n - (i + 1))
one-more n i h = omega arith

-- before the first step
pub left-start : (ms : List Mark) (p : ℕ) (w : WorldState) (n : ℕ) → behind (replicate 0 p) (went ms w (replicate (n - 0) p)) ≡ went ms w (replicate n p)
left-start ms p w n = let all : n - 0 ≡ n = omega arith in ap (λ k. went ms w (replicate k p)) all

-- the step that is taken has no effect
pub left-rests : (ms : List Mark) (p : ℕ) (w : WorldState) (i k : ℕ) (all : Went) → told_in w p ≡ Same
    → behind (replicate i p) (went ms w (replicate k p)) ≡ all → to_the_end (replicate i p) w ≡ all
left-rests ms p w i k all e is =
    behind-end (replicate i p) w ∙ ap (behind (replicate i p)) (sym (went-rests ms p w k (nothing-from w p e))) ∙ is

-- it is a stop
pub left-met : (ms : List Mark) (p : ℕ) (w : WorldState) (i n : ℕ) (all : Went) → i < n → (told_in w p ≡ Same → ⊥) → is_stop ms p w ≡ true
    → behind (replicate i p) (went ms w (replicate (n - i) p)) ≡ all → to_a_stop p (replicate (i + 1) p) (step w p) ≡ all
left-met ms p w i n all h e met is =
    let here : went ms w (replicate (n - i) p) ≡ to_a_stop p (p ∷ []) (step w p) =
    ap (λ k. went ms w (replicate k p)) (one-more n i h) ∙ went-met ms p w (replicate (n - (i + 1)) p) (something-from w p e) met in
    ap (λ xs. to_a_stop p xs (step w p)) (sym (append-nil (replicate (i + 1) p)) ∙ replicate-more i p []) ∙ ap (behind (replicate i p)) (sym here) ∙ is

-- it is none
pub left-more : (ms : List Mark) (p : ℕ) (w : WorldState) (i n : ℕ) (all : Went) → i < n → (told_in w p ≡ Same → ⊥) → is_stop ms p w ≡ false
    → behind (replicate i p) (went ms w (replicate (n - i) p)) ≡ all → behind (replicate (i + 1) p) (went ms (step w p) (replicate (n - (i + 1)) p)) ≡ all
left-more ms p w i n all h e met is =
    let rest = went ms (step w p) (replicate (n - (i + 1)) p) in
    let here : went ms w (replicate (n - i) p) ≡ behind (p ∷ []) rest =
    ap (λ k. went ms w (replicate k p)) (one-more n i h) ∙ went-more ms p w (replicate (n - (i + 1)) p) (something-from w p e) met in
    behind-more i p rest ∙ ap (behind (replicate i p)) (sym here) ∙ is

-- all steps are done
pub left-done : (ms : List Mark) (p : ℕ) (w : WorldState) (i n : ℕ) (all : Went) → i ≡ n
    → behind (replicate i p) (went ms w (replicate (n - i) p)) ≡ all → to_the_end (replicate n p) w ≡ all
left-done ms p w i n all h is =
    let none : n - i ≡ zero = omega (arith, h) in
    ap (λ k. to_the_end (replicate k p) w) (sym h) ∙ behind-end (replicate i p) w
    ∙ ap (behind (replicate i p)) (sym (ap (λ k. went ms w (replicate k p)) none ∙ went-none ms w)) ∙ is
