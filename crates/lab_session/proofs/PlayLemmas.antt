-- Steps of blocks up to a stop.
use Rattle.std.proofs.Common.{◌≡◌, ℕ, zero, suc, ◌++◌, ◌&&◌, List, [], ◌∷◌, Option, Some, None, Bool, true, false, not, replicate, slice_get, refl, sym, ap, ◌∙◌, append_assoc, append-nil}
use Rattle.lab_sched.specs.Verdicts.{is_nothing}
use Rattle.lab_sched.specs.Worlds.{Process, WorldState, step_effect_in, step, run}
use Rattle.lab_sched.specs.Schedules.{steps_of}
use Rattle.lab_sched.specs.declared.schedule.Block.{Block}
use Rattle.lab_session.specs.declared.marks.Mark.{Mark}
use Rattle.lab_session.specs.Marks.{break_at, stands_at_break, is_at_break}
use Rattle.lab_session.specs.Sessions.{SessionState, effective, with_steps, after_steps}
use Rattle.lab_session.specs.Stops.{is_stop, comes_to_stop, steps_to_stop, stopped_process, steps_until}
use Rattle.lab_session.specs.Private.Stops.{only_if}
use Rattle.lab_session.proofs.StepLemmas.{effective-append}
use Rattle.lab_session.proofs.StopLemmas.{went-rests}
use Rattle.lab_session.proofs.BlockLemmas.{steps-cons}

pub stop-yes : (b : Bool) (p : ℕ) (r : Option ℕ) → only_if b p ≡ r → b ≡ true → r ≡ Some p
stop-yes b p r is holds = sym is ∙ rw holds refl

pub stop-no : (b : Bool) (p : ℕ) (r : Option ℕ) → only_if b p ≡ r → b ≡ false → r ≡ None
stop-no b p r is fails = sym is ∙ rw fails refl

-- where nothing is marked no step is a stop
no-break : (p : ℕ) (s : Option Process) → stands_at_break [] p s ≡ false
no-break p None = refl
no-break p (Some s) = refl

and-false : (b : Bool) → (b && false) ≡ false
and-false true = refl
and-false false = refl

no-stop : (p : ℕ) (w : WorldState) → comes_to_stop [] p w ≡ false
no-stop p w = rw (no-break p (slice_get (step w p).processes p)) (and-false (not (is_nothing (step_effect_in w p))))

pub no_marks_no_stop : (w : WorldState) (ps : List ℕ) → steps_to_stop [] w ps ≡ ps
unfolding steps_to_stop
no_marks_no_stop w [] = refl
no_marks_no_stop w (p ∷ ps) = rw (no-stop p w) (ap (λ zs. p ∷ zs) (no_marks_no_stop (step w p) ps))

-- where no step is a stop all are taken
all-taken : (ms : List Mark) (w : WorldState) (xs : List ℕ) → stopped_process ms w xs ≡ None → steps_to_stop ms w xs ≡ xs
unfolding steps_to_stop stopped_process
all-taken ms w [] is = refl
all-taken ms w (p ∷ xs) is = by (comes_to_stop ms p w) refl (λ k. all-taken ms (step w p) xs k)
  where
    by : (b : Bool) → comes_to_stop ms p w ≡ b → (stopped_process ms (step w p) xs ≡ None → steps_to_stop ms (step w p) xs ≡ xs) → steps_to_stop ms w (p ∷ xs) ≡ p ∷ xs
    by true e more = let never : Some p ≡ None = (rw e at is) in cc
    by false e more = rw e (ap (λ zs. p ∷ zs) (more (rw e at is)))

-- steps of one process that come to a stop all have an effect
all-act : (ms : List Mark) (p : ℕ) (w : WorldState) (n q : ℕ) → stopped_process ms w (replicate n p) ≡ Some q
    → steps_to_stop ms w (replicate n p) ≡ effective w (steps_to_stop ms w (replicate n p))
unfolding steps_to_stop stopped_process effective
all-act ms p w zero q is = cc
all-act ms p w (suc n) q is = by (is_nothing (step_effect_in w p)) (is_stop ms p w) refl refl (λ k. all-act ms p (step w p) n q k)
  where
    by : (b m : Bool) → is_nothing (step_effect_in w p) ≡ b → is_stop ms p w ≡ m
        → (stopped_process ms (step w p) (replicate n p) ≡ Some q → steps_to_stop ms (step w p) (replicate n p) ≡ effective (step w p) (steps_to_stop ms (step w p) (replicate n p)))
        → steps_to_stop ms w (p ∷ replicate n p) ≡ effective w (steps_to_stop ms w (p ∷ replicate n p))
    by true m e met more = let never : None ≡ Some q = sym (ap (λ t. t.1) (went-rests ms p w (suc n) e)) ∙ is in cc
    by false true e met more = rw (e, met) refl
    by false false e met more = rw (e, met) (ap (λ zs. p ∷ zs) (more (rw (e, met) at is)))

-- the steps, those with an effect, the process that stopped, and the world
abbrev pub Came : Type 0
Came = List ℕ × List ℕ × Option ℕ × WorldState

-- what steps come to
abbrev pub came : List Mark → WorldState → List ℕ → Came
came ms w ps = (steps_to_stop ms w ps, effective w (steps_to_stop ms w ps), stopped_process ms w ps, run w (steps_to_stop ms w ps))

-- the same behind other steps
abbrev pub after : List ℕ → List ℕ → Came → Came
after xs ys t = (xs ++ t.0, ys ++ t.1, t.2, t.3)

after-both : (xs ys us vs : List ℕ) (t : Came) → after (xs ++ us) (ys ++ vs) t ≡ after xs ys (after us vs t)
after-both xs ys us vs t = rw (append_assoc xs us t.0, append_assoc ys vs t.1) refl

-- a step that is no stop
came-cons : (ms : List Mark) (w : WorldState) (p : ℕ) (ps : List ℕ) → comes_to_stop ms p w ≡ false → came ms w (p ∷ ps) ≡ after (p ∷ []) (effective w (p ∷ [])) (came ms (step w p) ps)
unfolding steps_to_stop stopped_process run
came-cons ms w p ps e =
    let more = steps_to_stop ms (step w p) ps in
    let as_came : List ℕ → Came = λ es. (p ∷ more, es, stopped_process ms (step w p) ps, run (step w p) more) in
    rw e (ap as_came (effective-append w (p ∷ []) more))

-- what steps come to that began with others, which came to this
abbrev onward : List Mark → List ℕ → Option ℕ → Came → Came
onward ms ys None t = after t.0 t.1 (came ms t.3 ys)
onward ms ys (Some q) t = t

onward-after : (ms : List Mark) (ys xs us : List ℕ) (o : Option ℕ) (t : Came) → after xs us (onward ms ys o t) ≡ onward ms ys o (after xs us t)
onward-after ms ys xs us None t = sym (after-both xs us t.0 t.1 (came ms t.3 ys))
onward-after ms ys xs us (Some q) t = refl

came-append : (ms : List Mark) (w : WorldState) (xs ys : List ℕ) → came ms w (xs ++ ys) ≡ onward ms ys (stopped_process ms w xs) (came ms w xs)
unfolding steps_to_stop stopped_process effective run
came-append ms w [] ys = refl
came-append ms w (p ∷ xs) ys = by (comes_to_stop ms p w) refl (came-append ms (step w p) xs ys)
  where
    by : (b : Bool) → comes_to_stop ms p w ≡ b → came ms (step w p) (xs ++ ys) ≡ onward ms ys (stopped_process ms (step w p) xs) (came ms (step w p) xs)
        → came ms w (p ∷ (xs ++ ys)) ≡ onward ms ys (stopped_process ms w (p ∷ xs)) (came ms w (p ∷ xs))
    by true e more = rw e refl
    by false e more =
        let first = effective w (p ∷ []) in
        let stopped = stopped_process ms (step w p) xs in
        let same : stopped_process ms w (p ∷ xs) ≡ stopped = rw e refl in
        came-cons ms w p (xs ++ ys) e ∙ ap (after (p ∷ []) first) more ∙ onward-after ms ys (p ∷ []) first stopped (came ms (step w p) xs)
        ∙ ap (onward ms ys stopped) (sym (came-cons ms w p xs e)) ∙ ap (λ o. onward ms ys o (came ms w (p ∷ xs))) (sym same)

cut-steps : (ms : List Mark) (w : WorldState) (left rest : List Block) (b : Block) → left ≡ b ∷ rest → came ms w (steps_of left) ≡ came ms w (replicate b.count b.pid ++ steps_of rest)
cut-steps ms w left rest b cut = ap (λ bs. came ms w (steps_of bs)) cut ∙ ap (came ms w) (steps-cons b rest)

-- a block that comes to no stop
pub block-on : (ms : List Mark) (w v : WorldState) (b : Block) (left rest : List Block) (xs ys us vs : List ℕ) (e : ℕ) (all : Came)
    → left ≡ b ∷ rest → stopped_process ms w (replicate b.count b.pid) ≡ None
    → replicate e b.pid ≡ effective w (steps_to_stop ms w (replicate b.count b.pid)) → v ≡ run w (steps_to_stop ms w (replicate b.count b.pid))
    → us ≡ xs ++ replicate b.count b.pid → vs ≡ ys ++ replicate e b.pid
    → after xs ys (came ms w (steps_of left)) ≡ all → after us vs (came ms v (steps_of rest)) ≡ all
block-on ms w v b left rest xs ys us vs e all cut none acted v-is us-is vs-is is =
    let steps = replicate b.count b.pid in
    let whole : steps_to_stop ms w steps ≡ steps = all-taken ms w steps none in
    let here : came ms w (steps_of left) ≡ after steps (replicate e b.pid) (came ms v (steps_of rest)) =
    cut-steps ms w left rest b cut ∙ came-append ms w steps (steps_of rest) ∙ rw (none, ← acted, ← v-is, whole) refl in
    rw (us-is, vs-is) (after-both xs ys steps (replicate e b.pid) (came ms v (steps_of rest)) ∙ ap (after xs ys) (sym here) ∙ is)

-- a block that comes to a stop
pub block-met : (ms : List Mark) (w v : WorldState) (b : Block) (left rest : List Block) (xs ys us vs : List ℕ) (e : ℕ) (all : Came)
    → left ≡ b ∷ rest → stopped_process ms w (replicate b.count b.pid) ≡ Some b.pid
    → replicate e b.pid ≡ effective w (steps_to_stop ms w (replicate b.count b.pid)) → v ≡ run w (steps_to_stop ms w (replicate b.count b.pid))
    → us ≡ xs ++ replicate e b.pid → vs ≡ ys ++ replicate e b.pid
    → after xs ys (came ms w (steps_of left)) ≡ all → (us, vs, Some b.pid, v) ≡ all
block-met ms w v b left rest xs ys us vs e all cut met acted v-is us-is vs-is is =
    let steps = replicate b.count b.pid in
    let whole : replicate e b.pid ≡ steps_to_stop ms w steps = acted ∙ sym (all-act ms b.pid w b.count b.pid met) in
    let here : came ms w (steps_of left) ≡ (replicate e b.pid, replicate e b.pid, Some b.pid, v) =
    cut-steps ms w left rest b cut ∙ came-append ms w steps (steps_of rest) ∙ rw (met, ← acted, ← v-is, ← whole) refl in
    rw (us-is, vs-is) (ap (after xs ys) (sym here) ∙ is)

-- before the first block, and behind the last
pub blocks-start : (ms : List Mark) (w : WorldState) (bs us vs : List Block) → us ≡ [] → vs ≡ [] → after (steps_of us) (steps_of vs) (came ms w (steps_of bs)) ≡ came ms w (steps_of bs)
unfolding steps_of
blocks-start ms w bs us vs us-is vs-is = rw (us-is, vs-is) refl

pub blocks-done : (ms : List Mark) (w : WorldState) (left : List Block) (xs ys : List ℕ) (all : Came) → left ≡ []
    → after xs ys (came ms w (steps_of left)) ≡ all → (xs, ys, None, w) ≡ all
unfolding steps_of steps_to_stop stopped_process effective run
blocks-done ms w left xs ys all none is =
    let those : List ℕ → List ℕ → Came = λ us vs. (us, vs, None, w) in
    ap (λ us. those us ys) (sym (append-nil xs)) ∙ ap (those (xs ++ [])) (sym (append-nil ys)) ∙ (rw none at is)

-- a session whose process is at the address already
pub none_until : (s : SessionState) (pid a n : ℕ) → is_at_break (break_at pid a ∷ []) pid s.world ≡ true → s ≡ after_steps s (steps_until pid a s.world n)
unfolding run
none_until s pid a n here = rw here (ap (λ xs. with_steps s xs s.world) (sym (append-nil s.steps)))
