-- What steps tell: it has no floats, and is added step by step.
use Rattle.std.proofs.Common.{◌≡◌, ℕ, zero, suc, ◌<◌, ◌≤◌, ◌++◌, List, [], ◌∷◌, false, replicate, length, Result, Ok, Err, refl, sym, ap, ◌∙◌, append-nil, append_assoc, arith}
use Rattle.std.specs.Prelude.{OnOk}
use Rattle.serde_json.specs.Data.{Data}
use Rattle.serde_json.specs.Written.{has_float}
use Rattle.lab_sched.specs.Worlds.{WorldState, nothing, step_effect_in}
use Rattle.lab_sched.specs.declared.schedule.Block.{Block}
use Rattle.lab_told.specs.Scenes.{Scene, told, next}
use Rattle.lab_told.specs.Tellings.{AreThere, IsNext, TellsAll}
use Rattle.lab_told.specs.declared.telling.Taken.{Taken}
use Rattle.lab_told.specs.declared.told.Told.{Told}
use Rattle.lab_told.specs.declared.told.Told.TheVariants.{Nothing, Counted, Shown}
use Rattle.lab_told.proofs.SceneLemmas.{renumbered, told-still}
use Rattle.lab_told.proofs.TellingLemmas.{told-stands}
use Rattle.lab_moments.proofs.PlainLemmas.{ArePlain, plain}
use Rattle.lab_moments.proofs.EventLemmas.{act-plain}
use Rattle.lab_page.specs.Legs.{event_data, told_data, leg_events, leg_data}

told-plain : (n : ℕ) (t : Told) → ArePlain (told_data n t)
unfolding event_data
told-plain n Nothing = refl
told-plain n Counted = refl
told-plain n (Shown e) = search (plain, act-plain)

events-plain : (s : Scene) (ps : List ℕ) → ArePlain (leg_events s ps)
unfolding leg_events
events-plain s [] = refl
events-plain s (p ∷ ps) = let rest = events-plain (next s p) ps in search (plain, told-plain, rest)

pub leg_plain : (w : WorldState) (p n : ℕ) → has_float (leg_data w p n) ≡ false
unfolding leg_data
leg_plain w p n = search (plain, events-plain)

-- the process of a block alone
pub there-one : (w : WorldState) (b : Block) → b.pid < length w.processes → AreThere w (b ∷ [])
there-one w b h zero within = h
there-one w b h (suc i) within = absurd (omega (arith, within))

module _ {O : Type 0} (values : O → List Data) where
  -- what the next step of a scene tells is added
  abbrev pub AddsEvents : Scene → ℕ → O → O → Type 0
  AddsEvents s p old new = values new ≡ values old ++ told_data s.number (told s p)

  -- a step that was taken, and the others for which it stands
  leg-stands : (s : Scene) (p k : ℕ) (a b : O) → 1 ≤ k → ((told s p ≡ Nothing → ⊥) → k ≡ 1) → AddsEvents s p a b → TellsAll AddsEvents s (replicate k p) a b
  unfolding told
  leg-stands s p zero a b some one first = absurd (omega (arith, some))
  leg-stands s p (suc k) a b some one first = told-stands AddsEvents s p (suc k) held one first each
    where
      held : ℕ → O
      held zero = a
      held (suc j) = b

      none : (n : ℕ) → step_effect_in s.world p ≡ nothing → told_data n (told s p) ≡ []
      none n e = ap (told_data n) (told-still s p e)

      each : step_effect_in s.world p ≡ nothing → (n j : ℕ) → AddsEvents (renumbered s n) p (held j) (held (suc j))
      each e n zero = first ∙ ap (λ (l : List Data). values a ++ l) (none s.number e ∙ sym (none n e))
      each e n (suc j) = sym (ap (λ (l : List Data). values b ++ l) (none n e) ∙ append-nil (values b))

  pub leg-told : {T E : Type 0} (r : Result T E) (s : Scene) (x : Taken) (a b : O) → IsNext s x
      → OnOk r (values b ≡ values a ++ told_data x.number x.told.now) → OnOk r (TellsAll AddsEvents s (replicate x.count x.pid) a b)
  leg-told (Ok u) s x a b n added =
      leg-stands s x.pid x.count a b n.some (λ other. n.other (λ e. other (sym n.told ∙ e)))
      (added ∙ ap (λ (k : ℕ). values a ++ told_data k x.told.now) n.number ∙ ap (λ (t : Told). values a ++ told_data s.number t) n.told)
  leg-told (Err e) s x a b n added = tt

  -- what these steps tell, where each was told
  pub leg-all : (s : Scene) (ps : List ℕ) (a b : O) → TellsAll AddsEvents s ps a b → values b ≡ values a ++ leg_events s ps
  unfolding leg_events
  leg-all s [] a b t = ap values t ∙ sym (append-nil (values a))
  leg-all s (p ∷ ps) a c t =
      leg-all (next s p) ps t.0 c t.2 ∙ ap (λ (l : List Data). l ++ leg_events (next s p) ps) t.1
      ∙ append_assoc (values a) (told_data s.number (told s p)) (leg_events (next s p) ps)
