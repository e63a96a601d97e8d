-- The moments of steps, one after another, and what is kept of steps without an effect.
use Rattle.std.proofs.Common.{◌≡◌, ℕ, suc, Bool, List, [], ◌∷◌, ◌++◌, refl, sym, ap, ◌∙◌, append_assoc}
use Rattle.serde_json.specs.Data.{Data}
use Rattle.lab_sched.specs.Worlds.{nothing, step_effect_in}
use Rattle.lab_told.specs.Scenes.{Scene, next, scene_after}
use Rattle.lab_told.specs.Tellings.{waits_at}
use Rattle.lab_told.specs.declared.told.Told.{Told}
use Rattle.lab_told.specs.declared.told.Told.TheVariants.{Nothing}
use Rattle.lab_told.proofs.SceneLemmas.{renumbered, told-still}
use Rattle.lab_trace.specs.Forms.{Form}
use Rattle.lab_moments.specs.Between.{between_after}
use Rattle.lab_moments.specs.Moments.{moment_by}
use Rattle.lab_moments.specs.Pasts.{Past, past_after}
use Rattle.lab_moments.specs.declared.past.StepCount.{StepCount}
use Rattle.lab_moments.proofs.BetweenLemmas.{after-more}
use Rattle.lab_page.specs.Moments.{moment, moments, past_by, next_past, past_then}

pub moments-append : (v : Form) (whole : Bool) (s : Scene) (b : Past) (xs ys : List ℕ)
    → moments v whole s b (xs ++ ys) ≡ moments v whole s b xs ++ moments v whole (scene_after s xs) (past_then s xs b) ys
unfolding moments scene_after past_then
moments-append v whole s b [] ys = refl
moments-append v whole s b (x ∷ xs) ys =
    ap (λ (t : List Data). moment v whole s b x ++ t) (moments-append v whole (next s x) (next_past s x b) xs ys)
    ∙ sym (append_assoc (moment v whole s b x) (moments v whole (next s x) (next_past s x b) xs)
    (moments v whole (scene_after (next s x) xs) (past_then (next s x) xs (next_past s x b)) ys))

-- a step without an effect has no moment
pub moment-still : (v : Form) (whole : Bool) (s : Scene) (b : Past) (p : ℕ) → step_effect_in s.world p ≡ nothing → moment v whole s b p ≡ []
unfolding moment
moment-still v whole s b p e =
    ap (λ (t : Told). moment_by v whole s.number p t (next s p).world (next s p).tally b) (told-still s p e)

-- after so many steps without an effect
abbrev still : ℕ → ℕ → Bool → Past → Past
still n p waits h = record h { between = between_after n p waits Nothing h.between }

pub past-still : (n : ℕ) (s : Scene) (p : ℕ) (h : Past) → step_effect_in s.world p ≡ nothing → past_by n s p h ≡ still n p (waits_at s p) h
past-still n s p h e = ap (λ (t : Told). past_after n s.number p (waits_at s p) t (next s p).world (next s p).tally h) (told-still s p e)

-- one more of them, with another number
pub past-more : (n m : ℕ) (s : Scene) (p : ℕ) (h : Past) → step_effect_in s.world p ≡ nothing
    → past_by (suc n) s p h ≡ next_past (renumbered s m) p (past_by n s p h)
past-more n m s p h e =
    past-still (suc n) s p h e ∙ ap (λ (b : List StepCount). record h { between = b }) (sym (after-more n p (waits_at s p) h.between))
    ∙ sym (past-still 1 (renumbered s m) p (still n p (waits_at s p) h) e)
    ∙ ap (next_past (renumbered s m) p) (sym (past-still n s p h e))
