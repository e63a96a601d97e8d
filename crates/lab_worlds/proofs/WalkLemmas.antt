-- Walks from the start, and worlds that are compared with rows.
use Rattle.std.proofs.Common.{ℕ, ◌≡◌, ◌<◌, ◌≤◌, ◌+◌, ◌++◌, List, [], ◌∷◌, refl, sym, ap, subst, slice_get, length, replicate, rules}
use Rattle.std.proofs.lemmas.Bool.{cases_lt}
use Rattle.std.proofs.lemmas.List.{append-nil, length-append}
use Rattle.std.proofs.lemmas.Option.{slice_get_past}
use Rattle.lab_sched.specs.declared.schedule.Block.{Block}
use Rattle.lab_sched.specs.declared.stepped.Stepped.{Stepped}
use Rattle.lab_sched.specs.declared.stepped.Stepped.TheVariants as stepped
use Rattle.lab_sched.specs.Worlds.{WorldState, StepEffect, nothing, step_effect_in, step, run, entries, entry_of, IsEffective}
use Rattle.lab_sched.specs.Held.{told_in}
use Rattle.lab_sched.specs.Schedules.{steps_of}
use Rattle.lab_sched.proofs.Runs.{run-append, run-one, nothing_told}
use Rattle.lab_sched.proofs.Executions.{effective-append, entries-append}
use Rattle.lab_worlds.specs.declared.walking.Walk.{Walk}
use Rattle.lab_worlds.specs.Calls.{Both, Alongside}
use Rattle.lab_worlds.specs.Walked.{IsWalk}
use Rattle.lab_worlds.proofs.AfterLocalSteps.{same_by_gets}

some_effective : (t : StepEffect) → (t ≡ nothing → ⊥) → IsEffective t
some_effective nothing h = absurd (h refl)
some_effective _ h = tt

told_effective : (w : WorldState) (p : ℕ) → (told_in w p ≡ stepped.Same → ⊥) → IsEffective (step_effect_in w p)
told_effective w p h = some_effective (step_effect_in w p) (λ none. h (nothing_told w p none))

-- the entries along one step
one_entry : (w : WorldState) (p : ℕ) → length (entries w (p ∷ [])) ≡ length (entry_of p (step_effect_in w p))
unfolding entries
one_entry w p = ap length (append-nil (entry_of p (step_effect_in w p)))

-- one step more
pub walk_more : (start : WorldState) (old new : Walk) (p : ℕ) (told : Stepped) → IsWalk start old → new.world ≡ step old.world p → told ≡ told_in old.world p
    → (told ≡ stepped.Same → ⊥) → steps_of new.schedule ≡ steps_of old.schedule ++ replicate 1 p → new.calls ≡ old.calls + length (entry_of p (step_effect_in old.world p)) → IsWalk start new
walk_more start old new p told h world-is told-is moved steps-is calls-is = search (rules, told_effective, effective-append, run-append, run-one, entries-append, length-append, one_entry)

-- lists that are as long, place by place
pub by_places : {A B : Type 0} (R : A → B → Type 0) (xs : List A) (ys : List B) (n : ℕ) → length xs ≤ n → length xs ≡ length ys
    → ((p : ℕ) → p < n → Both R (slice_get xs p) (slice_get ys p)) → Alongside R xs ys
by_places R xs ys n long same below p = search (rules, cases_lt, slice_get_past)

-- lists that are as long and the same at each place
pub same_below : {A : Type 0} (xs ys : List A) (n : ℕ) → n ≡ length xs → n ≡ length ys → ((p : ℕ) → p < n → slice_get ys p ≡ slice_get xs p) → ys ≡ xs
same_below xs ys n first second below = search (rules, same_by_gets, cases_lt, slice_get_past)

-- no step yet
pub walk_none : (start w : WorldState) (bs : List Block) → bs ≡ [] → w ≡ start → IsWalk start (record { world = w; schedule = bs; calls = 0 })
unfolding steps_of run entries
walk_none start w bs none same =
    subst (λ cs. IsWalk start (record { world = w; schedule = cs; calls = 0 })) (sym none) (record { effective = tt; leads = sym same; calls = refl })
