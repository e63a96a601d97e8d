-- What is written of steps, one after another.
use Rattle.std.proofs.Common.{◌≡◌, ℕ, zero, suc, ◌≤◌, Bool, List, [], ◌∷◌, ◌++◌, replicate, refl, sym, ap, subst, ◌∙◌, append_assoc, append-nil, arith}
use Rattle.serde_json.specs.Data.{Data}
use Rattle.lab_sched.specs.Worlds.{nothing, step_effect_in}
use Rattle.lab_told.specs.Scenes.{Scene, told, next, scene_after}
use Rattle.lab_told.specs.Tellings.{TellsAll, BreaksOff, IsNext}
use Rattle.lab_told.specs.declared.telling.Taken.{Taken}
use Rattle.lab_told.specs.declared.told.Told.TheVariants.{Nothing}
use Rattle.lab_told.proofs.SceneLemmas.{renumbered}
use Rattle.lab_told.proofs.TellingLemmas.{told-stands}
use Rattle.lab_trace.specs.Forms.{Form}
use Rattle.lab_trace.specs.Lines.{step_line, line, events}
use Rattle.lab_trace.proofs.LineLemmas.{line-still}
use Rattle.lab_moments.specs.Moments.{moment_by}
use Rattle.lab_moments.specs.Pasts.{Past, past_after}
use Rattle.lab_page.specs.Faults.{IsFault}
use Rattle.lab_page.specs.Moments.{moment, moments, past_by, next_past, past_then}
use Rattle.lab_page.specs.Private.Json.{more_json}
use Rattle.lab_page.specs.Private.Stores.{Stores, AddsStores}
use Rattle.lab_page.specs.Private.Written.{Written, AddsStep, TellsStep, BreaksStep}
use Rattle.lab_page.specs.declared.paging.PageFault.{PageFault}
use Rattle.lab_page.specs.declared.run.Look.{Look}
use Rattle.lab_page.proofs.FaultLemmas.{fault-longer, regrouped}
use Rattle.lab_page.proofs.JsonLemmas.{more-append}
use Rattle.lab_page.proofs.PairLemmas.{first-told}
use Rattle.lab_page.proofs.MomentLemmas.{moments-append, moment-still, past-still, past-more}

-- what is written after these steps
abbrev pub after_steps : Look → Scene → List ℕ → Written → Written
after_steps v s ps m = record {
  json = m.json ++ more_json (moments v.page v.whole s m.past ps);
  lines = m.lines ++ events v.trace s ps;
  past = past_then s ps m.past;
}

-- after one
abbrev after_one : Look → Scene → ℕ → Written → Written
after_one v s p m = record {
  json = m.json ++ more_json (moment v.page v.whole s m.past p);
  lines = m.lines ++ line v.trace s p;
  past = next_past s p m.past;
}

abbrev written : List ℕ → List ℕ → Past → Written
written j l h = record { json = j; lines = l; past = h }

same-written : (j k l n : List ℕ) (g h : Past) → j ≡ k → l ≡ n → g ≡ h → written j l g ≡ written k n h
same-written j k l n g h e f i =
    ap (λ (x : List ℕ). written x l g) e ∙ ap (λ (x : List ℕ). written k x g) f ∙ ap (λ (x : Past). written k n x) i

after-none : (v : Look) (s : Scene) (m : Written) → m ≡ after_steps v s [] m
unfolding moments events past_then
after-none v s m = same-written m.json _ m.lines _ m.past _ (sym (append-nil m.json)) (sym (append-nil m.lines)) refl

after-first : (v : Look) (s : Scene) (p : ℕ) (ps : List ℕ) (m : Written) → after_steps v (next s p) ps (after_one v s p m) ≡ after_steps v s (p ∷ ps) m
unfolding moments events past_then
after-first v s p ps m =
    let one : List Data = moment v.page v.whole s m.past p in
    let behind : List Data = moments v.page v.whole (next s p) (next_past s p m.past) ps in
    same-written _ _ _ _ _ _
    (append_assoc m.json (more_json one) (more_json behind) ∙ ap (λ (l : List ℕ). m.json ++ l) (sym (more-append one behind)))
    (append_assoc m.lines (line v.trace s p) (events v.trace (next s p) ps)) refl

-- what is written after these steps, where each was told
pub all-told : (v : Look) (s : Scene) (ps : List ℕ) (a b : Written) → TellsAll (AddsStep v) s ps a b → b ≡ after_steps v s ps a
all-told v s [] a b t = t ∙ after-none v s a
all-told v s (p ∷ ps) a c t =
    all-told v (next s p) ps t.0 c t.2 ∙ ap (after_steps v (next s p) ps) t.1 ∙ after-first v s p ps a

-- the moment of a step that was taken, its line, and what is kept behind it
pub moment-next : (v : Form) (whole : Bool) (s : Scene) (h : Past) (x : Taken) → IsNext s x
    → moment_by v whole x.number x.pid x.told.now x.world.now x.tally.now h ≡ moment v whole s h x.pid
unfolding moment
moment-next v whole s h x n = rw (n.number, n.told, n.world, n.tally) refl

line-next : (v : Form) (s : Scene) (x : Taken) → IsNext s x → step_line v x.number x.pid x.told.now ≡ line v s x.pid
line-next v s x n = rw (n.number, n.told) refl

past-next : (s : Scene) (h : Past) (x : Taken) → IsNext s x
    → past_after x.count x.number x.pid x.waited x.told.now x.world.now x.tally.now h ≡ past_by x.count s x.pid h
past-next s h x n = rw (n.number, n.waited, n.told, n.world, n.tally) refl

-- a step, and the others for which it stands
stands : (v : Look) (s : Scene) (p k : ℕ) (a b : Written) → 1 ≤ k → ((told s p ≡ Nothing → ⊥) → k ≡ 1)
    → b.json ≡ a.json ++ more_json (moment v.page v.whole s a.past p) → b.lines ≡ a.lines ++ line v.trace s p → b.past ≡ past_by k s p a.past
    → TellsAll (AddsStep v) s (replicate k p) a b
stands v s p zero a b some one json lines past = absurd (omega (arith, some))
stands v s p (suc k) a b some one json lines past =
    subst (λ (m : Written). TellsAll (AddsStep v) s (replicate (suc k) p) a m) (same-written b.json _ b.lines _ _ b.past refl refl (sym past))
    (told-stands (AddsStep v) s p (suc k) held one (same-written _ _ _ _ _ _ json lines refl) each)
  where
    held : ℕ → Written
    held zero = a
    held (suc j) = written b.json b.lines (past_by (suc j) s p a.past)

    each : step_effect_in s.world p ≡ nothing → (n j : ℕ) → AddsStep v (renumbered s n) p (held j) (held (suc j))
    each e n zero =
        let h : Past = a.past in
        same-written _ _ _ _ _ _
        (json ∙ ap (λ (l : List Data). a.json ++ more_json l) (moment-still v.page v.whole s h p e ∙ sym (moment-still v.page v.whole (renumbered s n) h p e)))
        (lines ∙ ap (λ (l : List ℕ). a.lines ++ l) (line-still v.trace s p e ∙ sym (line-still v.trace (renumbered s n) p e)))
        (past-still 1 s p h e ∙ sym (past-still 1 (renumbered s n) p h e))
    each e n (suc j) =
        let h : Past = past_by (suc j) s p a.past in
        same-written _ _ _ _ _ _
        (sym (ap (λ (l : List Data). b.json ++ more_json l) (moment-still v.page v.whole (renumbered s n) h p e) ∙ append-nil b.json))
        (sym (ap (λ (l : List ℕ). b.lines ++ l) (line-still v.trace (renumbered s n) p e) ∙ append-nil b.lines))
        (past-more (suc j) n s p a.past e)

pub step-told : (v : Look) (s : Scene) (x : Taken) (a b : Written) → IsNext s x
    → b.json ≡ a.json ++ more_json (moment_by v.page v.whole x.number x.pid x.told.now x.world.now x.tally.now a.past)
    → b.lines ≡ a.lines ++ step_line v.trace x.number x.pid x.told.now
    → b.past ≡ past_after x.count x.number x.pid x.waited x.told.now x.world.now x.tally.now a.past
    → TellsAll (AddsStep v) s (replicate x.count x.pid) a b
step-told v s x a b n json lines past =
    stands v s x.pid x.count a b n.some (λ other. n.other (λ e. other (sym n.told ∙ e)))
    (json ∙ ap (λ (l : List Data). a.json ++ more_json l) (moment-next v.page v.whole s a.past x n))
    (lines ∙ ap (λ (l : List ℕ). a.lines ++ l) (line-next v.trace s x n)) (past ∙ past-next s a.past x n)

-- where the moment of one has too many bytes, those of all have
pub broken-off : (v : Look) (s : Scene) (ps : List ℕ) (x y : Written × Stores) (e : PageFault) → BreaksOff (TellsStep v) (BreaksStep v) s ps x y e
    → IsFault e (x.0.json ++ more_json (moments v.page v.whole s x.0.past ps))
unfolding moments
broken-off v s ps x y e w =
    let a : Written = x.0 in
    let u : Scene = scene_after s w.before in
    let h : Past = past_then s w.before a.past in
    let is : w.held.0 ≡ after_steps v s w.before a = all-told v s w.before a w.held.0 (first-told (AddsStep v) AddsStores s w.before x w.held w.told) in
    let first : List Data = moments v.page v.whole s a.past w.before in
    let more : List Data = moment v.page v.whole u h w.pid in
    let rest : List Data = moments v.page v.whole (next u w.pid) (next_past u w.pid h) w.behind in
    let fault : IsFault e ((a.json ++ more_json first) ++ more_json more) =
    subst (λ (m : Written). IsFault e (m.json ++ more_json (moment v.page v.whole u m.past w.pid))) is w.fault in
    subst (λ (l : List ℕ). IsFault e l)
    (regrouped a.json (a.json ++ more_json first) first more rest (moments v.page v.whole s a.past ps) refl
    (ap (moments v.page v.whole s a.past) w.steps ∙ moments-append v.page v.whole s a.past w.before (w.pid ∷ w.behind)))
    (fault-longer e ((a.json ++ more_json first) ++ more_json more) (more_json rest) fault)
