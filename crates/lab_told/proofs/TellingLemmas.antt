-- Steps that are told, one after another.
use Rattle.std.proofs.Common.{◌≡◌, ℕ, zero, suc, ◌+◌, ◌-◌, ◌<◌, ◌≤◌, List, [], ◌∷◌, ◌++◌, replicate, refl, sym, ap, subst, ◌∙◌, append_assoc, arith}
use Rattle.std.proofs.lemmas.List.{replicate-append-replicate}
use Rattle.lab_sched.specs.Worlds.{StepEffect, nothing, local_step, kernel_step, step_effect_in}
use Rattle.lab_told.specs.Scenes.{Scene, told, next, scene_after}
use Rattle.lab_told.specs.Tellings.{IsNext, TellsAll, BreaksOff}
use Rattle.lab_told.specs.declared.telling.Taken.{Taken}
use Rattle.lab_told.specs.declared.told.Told.TheVariants.{Nothing}
use Rattle.lab_told.proofs.SceneLemmas.{scene-append, scene-one, scene-still, renumbered, next-still, told-some}

-- a step has no effect, or stands for itself alone
single-or-still : (P : Type 0) (s : Scene) (p k : ℕ) → ((told s p ≡ Nothing → ⊥) → k ≡ 1) → (k ≡ 1 → P) → (step_effect_in s.world p ≡ nothing → P) → P
single-or-still P s p k one single still = by (step_effect_in s.world p) refl
  where
    other : (u : StepEffect) → step_effect_in s.world p ≡ u → (u ≡ nothing → ⊥) → P
    other u at ne = single (one (told-some s p (λ e. ne (sym at ∙ e))))

    by : (u : StepEffect) → step_effect_in s.world p ≡ u → P
    by nothing at = still at
    by (local_step m) at = other (local_step m) at (λ e. cc)
    by (kernel_step m c a) at = other (kernel_step m c a) at (λ e. cc)

-- the scene after a step, or after the others for which it stands
pub scene-stands : (s : Scene) (p k : ℕ) → ((told s p ≡ Nothing → ⊥) → k ≡ 1) → renumbered (next s p) (s.number + k) ≡ scene_after s (replicate k p)
scene-stands s p k one =
    single-or-still _ s p k one
    (λ e. ap (λ (n : ℕ). renumbered (next s p) (s.number + n)) e ∙ sym (scene-one s p) ∙ ap (λ (n : ℕ). scene_after s (replicate n p)) (sym e))
    (λ e. ap (λ (x : Scene). renumbered x (s.number + k)) (next-still s p e) ∙ sym (scene-still k s p e))

-- the scene after some steps and others behind them
pub scene-then : (s u x : Scene) (xs ys zs : List ℕ) → zs ≡ xs ++ ys → u ≡ scene_after s xs → x ≡ scene_after u ys → x ≡ scene_after s zs
scene-then s u x xs ys zs parts led then =
    then ∙ ap (λ y. scene_after y ys) led ∙ sym (scene-append s xs ys) ∙ ap (scene_after s) (sym parts)

module _ {O : Type 0} (Tells : Scene → ℕ → O → O → Type 0) where
  pub told-append : (s : Scene) (xs ys : List ℕ) (a b c : O) → TellsAll Tells s xs a b → TellsAll Tells (scene_after s xs) ys b c → TellsAll Tells s (xs ++ ys) a c
  unfolding scene_after
  told-append s [] ys a b c t u = subst (λ x. TellsAll Tells s ys x c) t u
  told-append s (p ∷ xs) ys a b c t u = (t.0, t.1, told-append (next s p) xs ys t.0 b c t.2 u)

  pub told-then : (s u : Scene) (xs ys zs : List ℕ) (a b c : O) → zs ≡ xs ++ ys → u ≡ scene_after s xs → TellsAll Tells s xs a b → TellsAll Tells u ys b c
      → TellsAll Tells s zs a c
  told-then s u xs ys zs a b c parts led t v =
      subst (λ l. TellsAll Tells s l a c) (sym parts) (told-append s xs ys a b c t (subst (λ x. TellsAll Tells x ys b c) led v))

  -- n steps without an effect
  still-all : (n i : ℕ) (s : Scene) (p : ℕ) (held : ℕ → O) → step_effect_in s.world p ≡ nothing → ((k j : ℕ) → Tells (renumbered s k) p (held j) (held (suc j)))
      → TellsAll Tells s (replicate n p) (held i) (held (i + n))
  still-all zero i s p held e each = let same : i + 0 ≡ i = omega arith in ap held same
  still-all (suc n) i s p held e each =
      let same : suc i + n ≡ i + suc n = omega arith in (
        held (suc i),
        each s.number i,
        subst (λ x. TellsAll Tells x (replicate n p) (held (suc i)) (held (i + suc n))) (sym (next-still s p e))
            (subst (λ k. TellsAll Tells (renumbered s (s.number + 1)) (replicate n p) (held (suc i)) (held k)) same
            (still-all n (suc i) (renumbered s (s.number + 1)) p held e (λ k j. each k j))),
      )

  -- a step, and the others for which it stands
  pub told-stands : (s : Scene) (p k : ℕ) (held : ℕ → O) → ((told s p ≡ Nothing → ⊥) → k ≡ 1) → Tells s p (held 0) (held 1)
      → (step_effect_in s.world p ≡ nothing → (n j : ℕ) → Tells (renumbered s n) p (held j) (held (suc j))) → TellsAll Tells s (replicate k p) (held 0) (held k)
  told-stands s p k held one first each =
      single-or-still _ s p k one
      (λ e. subst (λ n. TellsAll Tells s (replicate n p) (held 0) (held n)) (sym e) (held 1, first, refl))
      (λ e. let same : 0 + k ≡ k = omega arith in subst (λ n. TellsAll Tells s (replicate k p) (held 0) (held n)) same (still-all k 0 s p held e (each e)))

  -- a step that was taken, and the others for which it stands, where these leave what it led to as it is
  pub told-once : (s : Scene) (x : Taken) (a b : O) → IsNext s x → Tells s x.pid a b
      → (step_effect_in s.world x.pid ≡ nothing → (n : ℕ) → Tells (renumbered s n) x.pid a b × Tells (renumbered s n) x.pid b b)
      → TellsAll Tells s (replicate x.count x.pid) a b
  told-once s x a b taken first each = by x.count taken.some (λ other. taken.other (λ e. other (sym taken.told ∙ e)))
    where
      held : ℕ → O
      held zero = a
      held (suc j) = b

      still : step_effect_in s.world x.pid ≡ nothing → (n j : ℕ) → Tells (renumbered s n) x.pid (held j) (held (suc j))
      still e n zero = (each e n).0
      still e n (suc j) = (each e n).1

      by : (k : ℕ) → 1 ≤ k → ((told s x.pid ≡ Nothing → ⊥) → k ≡ 1) → TellsAll Tells s (replicate k x.pid) a b
      by zero some one = absurd (omega (arith, some))
      by (suc k) some one = told-stands s x.pid (suc k) held one first still

  module _ {E : Type 0} (Fails : Scene → ℕ → O → O → E → Type 0) where
    -- k steps of a block of n were told, and the next one broke off
    pub breaks-block : (s u : Scene) (n k p : ℕ) (a b c : O) (e : E) → k < n → u ≡ scene_after s (replicate k p) → TellsAll Tells s (replicate k p) a b
        → Fails u p b c e → BreaksOff Tells Fails s (replicate n p) a c e
    breaks-block s u n k p a b c e h led t fault =
        let parts : n ≡ k + suc (n - suc k) = omega arith in
        record {
          before = replicate k p;
          pid = p;
          behind = replicate (n - suc k) p;
          steps = ap (λ m. replicate m p) parts ∙ sym (replicate-append-replicate k (suc (n - suc k)) p);
          held = b;
          told = t;
          fault = subst (λ x. Fails x p b c e) led fault;
        }

    -- those before it were told, and others are behind it
    pub breaks-then : (s u : Scene) (xs ys rest zs : List ℕ) (a b c : O) (e : E) → zs ≡ xs ++ (ys ++ rest) → u ≡ scene_after s xs → TellsAll Tells s xs a b
        → BreaksOff Tells Fails u ys b c e → BreaksOff Tells Fails s zs a c e
    breaks-then s u xs ys rest zs a b c e parts led t w =
        let behind : List ℕ = w.behind ++ rest in
        record {
          before = xs ++ w.before;
          pid = w.pid;
          behind = behind;
          steps = parts ∙ ap (λ l. xs ++ (l ++ rest)) w.steps ∙ ap (λ l. xs ++ l) (append_assoc w.before (w.pid ∷ w.behind) rest)
              ∙ sym (append_assoc xs w.before (w.pid ∷ behind));
          held = w.held;
          told = told-append s xs w.before a b w.held t (subst (λ x. TellsAll Tells x w.before b w.held) led w.told);
          fault = subst (λ x. Fails x w.pid w.held c e) (ap (λ x. scene_after x w.before) led ∙ sym (scene-append s xs w.before)) w.fault;
        }
