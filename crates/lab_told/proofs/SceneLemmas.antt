-- The scenes of a trace, one after another.
use Rattle.std.proofs.Common.{◌≡◌, ℕ, zero, suc, ◌+◌, Bool, true, false, if◌then◌else◌, List, [], ◌∷◌, ◌++◌, Option, Some, None, length, replicate, slice_get, refl, sym, ap, ◌∙◌, arith}
use Rattle.ipc_kernel.specs.Kernel.{KernelState}
use Rattle.lab_sched.specs.Worlds.{Process, WorldState, nothing, step_effect_in, after, step, run}
use Rattle.lab_sched.specs.Held.{asked_by, told_in}
use Rattle.lab_sched.specs.declared.stepped.Stepped.{Stepped}
use Rattle.lab_sched.specs.declared.stepped.Stepped.TheVariants as stepped
use Rattle.lab_sched.proofs.Runs.{run-one, length-run, told_nothing, nothing_told}
use Rattle.lab_told.specs.Events.{act_by, told_with, told_by}
use Rattle.lab_told.specs.Tallies.{TallyState, account_of, tally_after}
use Rattle.lab_told.specs.Scenes.{Scene, has_effect, before_at, told, next_tally, next, scene_after}
use Rattle.lab_told.specs.declared.asking.Observed.{Observed}
use Rattle.lab_told.specs.declared.tally.Account.{Account}
use Rattle.lab_told.specs.declared.told.Act.{Act}
use Rattle.lab_told.specs.declared.told.Told.{Told}
use Rattle.lab_told.specs.declared.told.Told.TheVariants.{Nothing}

pub scene-append : (s : Scene) (xs ys : List ℕ) → scene_after s (xs ++ ys) ≡ scene_after (scene_after s xs) ys
unfolding scene_after
scene-append s [] ys = refl
scene-append s (x ∷ xs) ys = scene-append (next s x) xs ys

-- the world that the steps lead to
pub scene-world : (s : Scene) (ps : List ℕ) → (scene_after s ps).world ≡ run s.world ps
unfolding run scene_after
scene-world s [] = refl
scene-world s (p ∷ ps) = scene-world (next s p) ps

pub scene-none : (s : Scene) → scene_after s [] ≡ s
unfolding scene_after
scene-none s = refl

pub scene-one : (s : Scene) (p : ℕ) → scene_after s (p ∷ []) ≡ next s p
unfolding scene_after
scene-one s p = refl

-- a scene with another number
abbrev pub renumbered : Scene → ℕ → Scene
renumbered s n = record { number = n; world = s.world; tally = s.tally }

-- what is told of a step, by whether it has an effect
pub told-if : (s : Scene) (p : ℕ) (effect : Bool) → has_effect (told_in s.world p) ≡ effect
    → told s p ≡ (if effect then told_by (step s.world p).kernel s.tally p (before_at s p) (told_in s.world p) (slice_get (step s.world p).processes p) else Nothing)
unfolding told
told-if s p effect e =
    ap (λ (b : Bool). if b then told_by (step s.world p).kernel s.tally p (before_at s p) (told_in s.world p) (slice_get (step s.world p).processes p) else Nothing) e

-- of a step without effect nothing is told, and it changes nothing but the number
pub told-still : (s : Scene) (p : ℕ) → step_effect_in s.world p ≡ nothing → told s p ≡ Nothing
told-still s p e = told-if s p false (ap has_effect (nothing_told s.world p e))

tallied-still : (s : Scene) (p : ℕ) → step_effect_in s.world p ≡ nothing → next_tally s p ≡ s.tally
tallied-still s p e = ap (λ (t : Told). tally_after (step s.world p).kernel s.number p t s.tally) (told-still s p e)

-- of another step something is told
told_with-some : (b : Observed) (a : Account) (act : Option Act) → told_with b a act ≡ Nothing → ⊥
told_with-some b a None e = cc
told_with-some b a (Some act) e = cc

told_by-some : (k : KernelState) (t : TallyState) (p : ℕ) (b : Observed) (told : Stepped) (u : Option Process) → told_by k t p b told u ≡ Nothing → ⊥
told_by-some k t p b told None e = cc
told_by-some k t p b told (Some u) e = told_with-some b (account_of t p) (act_by k t p b.asking b.written told u) e

-- so it is of each step with an effect
effect-by : (told : Stepped) → (told ≡ stepped.Same → ⊥) → has_effect told ≡ true
effect-by stepped.Moved ne = refl
effect-by (stepped.Refused e) ne = refl
effect-by (stepped.Called r) ne = refl
effect-by stepped.Waits ne = refl
effect-by stepped.Same ne = absurd (ne refl)

pub told-some : (s : Scene) (p : ℕ) → (step_effect_in s.world p ≡ nothing → ⊥) → told s p ≡ Nothing → ⊥
told-some s p ne e =
    let effect : has_effect (told_in s.world p) ≡ true = effect-by (told_in s.world p)
    (λ same. ne (told_nothing (asked_by (slice_get s.world.processes p)) (step_effect_in s.world p) same)) in
    told_by-some (step s.world p).kernel s.tally p (before_at s p) (told_in s.world p) (slice_get (step s.world p).processes p) (sym (told-if s p true effect) ∙ e)

pub next-still : (s : Scene) (p : ℕ) → step_effect_in s.world p ≡ nothing → next s p ≡ renumbered s (s.number + 1)
next-still s p e =
    let as_scene : WorldState → TallyState → Scene = λ w t. record { number = s.number + 1; world = w; tally = t } in
    ap (λ w. as_scene w (next_tally s p)) (ap (λ t. after s.world p t) e) ∙ ap (λ t. as_scene s.world t) (tallied-still s p e)

-- so do n of them
pub scene-still : (n : ℕ) (s : Scene) (p : ℕ) → step_effect_in s.world p ≡ nothing → scene_after s (replicate n p) ≡ renumbered s (s.number + n)
unfolding scene_after
scene-still zero s p e = let same : s.number ≡ s.number + 0 = omega arith in ap (λ n. renumbered s n) same
scene-still (suc n) s p e =
    let same : (s.number + 1) + n ≡ s.number + suc n = omega arith in
    ap (λ x. scene_after x (replicate n p)) (next-still s p e) ∙ scene-still n (renumbered s (s.number + 1)) p e ∙ ap (λ k. renumbered s k) same

pub length-step : (w : WorldState) (p : ℕ) → length (step w p).processes ≡ length w.processes
length-step w p = sym (ap (λ (x : WorldState). length x.processes) (run-one w p)) ∙ length-run w (p ∷ [])

-- as many processes as before
pub length-scene : (s : Scene) (ps : List ℕ) → length (scene_after s ps).world.processes ≡ length s.world.processes
length-scene s ps = ap (λ (w : WorldState). length w.processes) (scene-world s ps) ∙ length-run s.world ps
