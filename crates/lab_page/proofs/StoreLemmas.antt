-- The words that steps store.
use Rattle.std.proofs.Common.{◌≡◌, ℕ, zero, suc, ◌+◌, ◌<◌, ◌≤◌, Bool, true, false, if◌then◌else◌, Option, List, [], ◌∷◌, ◌++◌, length, map, replicate, get_or, set, inl, inr, refl, sym, ap, ◌∙◌, append_assoc, append-nil, arith}
use Rattle.std.specs.Prelude.{min, slice_index}
use Rattle.std.proofs.lemmas.Bool.{cases_lt, cases_eq, eq-eqb}
use Rattle.std.proofs.lemmas.List.{ext_get_or, length-set, length_push, set_past, get_or_past, get_or_push, get_or-map, get_or_append_left, get_or-set_same, get_or-set_other}
use Rattle.lab_sched.specs.Schedules.{steps_of}
use Rattle.lab_sched.specs.declared.schedule.Block.{Block}
use Rattle.lab_sched.specs.Worlds.{WorldState, nothing, step_effect_in, after, step}
use Rattle.lab_sched.proofs.Commutes.{after_other}
use Rattle.lab_told.specs.Scenes.{Scene, told, next}
use Rattle.lab_told.specs.Tellings.{TellsAll, IsNext}
use Rattle.lab_told.specs.declared.telling.Taken.{Taken}
use Rattle.lab_told.specs.declared.told.Told.TheVariants.{Nothing}
use Rattle.lab_told.proofs.SceneLemmas.{renumbered, length-step}
use Rattle.lab_told.proofs.TellingLemmas.{told-stands}
use Rattle.lab_moments.specs.Values.{all_below}
use Rattle.lab_moments.proofs.PlainLemmas.{IsPlain, plain}
use Rattle.lab_moments.proofs.ValueLemmas.{all_below_none}
use Rattle.lab_page.specs.Runs.{is_whole}
use Rattle.lab_page.specs.Private.Stores.{Stores, all_held, stores_after, AddsStores}
use Rattle.lab_page.specs.Stores.{source_in, origin_at, held_words, held_at, changed, changed_words, stored_by, stores_data, stores_from, stores_of}
use Rattle.lab_page.specs.declared.source.Source.{Source}
use Rattle.lab_page.specs.declared.run.Stored.{Stored}

abbrev kept : List (Option Source) → List (List ℕ) → List Stored → Stores
kept ss held stored = record { sources = ss; held = held; stored = stored }

-- a list with an element for each number
below-length : {X : Type 0} (f : ℕ → X) (n : ℕ) → length (all_below n (λ i. f i ∷ [])) ≡ n
unfolding all_below
below-length f zero = refl
below-length f (suc n) = omega (arith, length_push (all_below n (λ i. f i ∷ [])) (f n), below-length f n)

below-at : {X : Type 0} (f : ℕ → X) (n i : ℕ) (d : X) → i < n → get_or (all_below n (λ i. f i ∷ [])) i d ≡ f i
unfolding all_below
below-at f zero i d h = absurd (omega (arith, h))
below-at f (suc n) i d h = elim (cases_lt i n) [
  | inl less ↦ get_or_append_left (all_below n (λ i. f i ∷ [])) (f n ∷ []) d i (omega (arith, below-length f n, less)) ∙ below-at f n i d less
  | inr last ↦
      let e : i ≡ n = omega (arith, h, last) in
      get_or_push (all_below n (λ i. f i ∷ [])) (f n) d i (below-length f n ∙ sym e) ∙ ap f (sym e)
]

below-none : {X : Type 0} (f : ℕ → List X) (n : ℕ) → ((i : ℕ) → f i ≡ []) → all_below n f ≡ []
unfolding all_below
below-none f zero h = refl
below-none f (suc n) h = ap (λ (l : List _). l ++ f n) (below-none f n h) ∙ h n

-- what the memory of another process holds stays
held-other : (ss : List (Option Source)) (w : WorldState) (p q : ℕ) → (p ≡ q → ⊥) → held_at ss (step w q) p ≡ held_at ss w p
held-other ss w p q ne = ap (held_words (source_in ss p)) (after_other w p q (step_effect_in w q) (λ e. ne (sym e)))

held-step : (ss : List (Option Source)) (w : WorldState) (p : ℕ) → p < length w.processes → set (all_held ss w) p (held_at ss (step w p) p) ≡ all_held ss (step w p)
held-step ss w p there = ext_get_or [] (set was p now) (all_held ss (step w p)) many at
  where
    was : List (List ℕ)
    was = all_held ss w

    now : List ℕ
    now = held_at ss (step w p) p

    before : length was ≡ length w.processes
    before = below-length (held_at ss w) (length w.processes)

    behind : length (all_held ss (step w p)) ≡ length w.processes
    behind = below-length (held_at ss (step w p)) (length (step w p).processes) ∙ length-step w p

    many : length (set was p now) ≡ length (all_held ss (step w p))
    many = length-set was p now ∙ before ∙ sym behind

    at : (i : ℕ) → i < length (set was p now) → get_or (set was p now) i [] ≡ get_or (all_held ss (step w p)) i []
    at i h =
        let within : i < length w.processes = omega (arith, h, length-set was p now, before) in
        let new : get_or (all_held ss (step w p)) i [] ≡ held_at ss (step w p) i =
        below-at (held_at ss (step w p)) (length (step w p).processes) i [] (omega (arith, within, length-step w p)) in
        elim (cases_eq i p) [
          | inl same ↦ ap (λ k. get_or (set was p now) k []) same ∙ get_or-set_same was p now [] (omega (arith, before, there))
              ∙ ap (held_at ss (step w p)) (sym same) ∙ sym new
          | inr other ↦ get_or-set_other was p i now [] other ∙ below-at (held_at ss w) (length w.processes) i [] within
              ∙ sym (held-other ss w i p other) ∙ sym new
        ]

below-empty : {X : Type 0} (f : ℕ → List X) (n : ℕ) → n ≡ 0 → all_below n f ≡ []
below-empty f n e = ap (λ (k : ℕ). all_below k f) e ∙ all_below_none f

changed-none : (n p a : ℕ) (ws : List ℕ) → changed_words n p a [] ws ≡ []
unfolding changed_words
changed-none n p a ws =
    let none : min (length ws) 0 ≡ 0 = omega arith in
    below-empty _ _ none

-- what was held of a process
pub held-was : {X Y : Type 0} (f : X → Y) (xs : List X) (i : ℕ) (x : X) (d : Y) → i < length xs → x ≡ get_or xs i x → get_or (map f xs) i d ≡ f x
held-was f xs i x d h read = get_or-map f xs i x d h ∙ ap f (sym read)

-- a process of which nothing is held
pub stores-past : (n p : ℕ) (w : WorldState) (k : Stores) → length k.held ≤ p → stores_after n p w k ≡ k
stores-past n p w k h =
    let ss : List (Option Source) = k.sources in
    let now : List ℕ = held_at ss w p in
    let more : List ℕ → List Stored = λ l. changed_words n p (origin_at ss p) l now in
    ap (λ (l : List (List ℕ)). kept ss l (k.stored ++ more (get_or k.held p []))) (set_past k.held p now h)
    ∙ ap (λ (l : List ℕ). kept ss k.held (k.stored ++ more l)) (get_or_past k.held p [] h)
    ∙ ap (λ (l : List Stored). kept ss k.held (k.stored ++ l)) (changed-none n p (origin_at ss p) now)
    ∙ ap (λ (l : List Stored). kept ss k.held l) (append-nil k.stored)

-- a step without an effect stores nothing
changed-same : (n p a : ℕ) (ws : List ℕ) → changed_words n p a ws ws ≡ []
unfolding changed_words
changed-same n p a ws =
    below-none (λ i. changed (record { step = n; process = p; address = a + i; word = slice_index ws i }) (slice_index ws i)) _
    (λ i. rw (eq-eqb (slice_index ws i) (slice_index ws i) refl) refl)

still-world : (w : WorldState) (p : ℕ) → step_effect_in w p ≡ nothing → step w p ≡ w
still-world w p e = ap (after w p) e

still-none : (ss : List (Option Source)) (n : ℕ) (w : WorldState) (p : ℕ) → step_effect_in w p ≡ nothing → stored_by ss n w p ≡ []
still-none ss n w p e =
    ap (λ (u : WorldState). changed_words n p (origin_at ss p) (held_at ss w p) (held_at ss u p)) (still-world w p e)
    ∙ changed-same n p (origin_at ss p) (held_at ss w p)

-- a step that was taken
stores-first : (s : Scene) (p : ℕ) (a b : Stores) → p < length s.world.processes → b ≡ stores_after s.number p (step s.world p) a → AddsStores s p a b
stores-first s p a b there is h =
    let ss : List (Option Source) = a.sources in
    let now : List ℕ = held_at ss (step s.world p) p in
    let more : List (List ℕ) → List Stored = λ l. a.stored ++ changed_words s.number p (origin_at ss p) (get_or l p []) now in
    is ∙ ap (λ (l : List (List ℕ)). kept ss (set l p now) (more l)) h
    ∙ ap (λ (l : List (List ℕ)). kept ss l (more (all_held ss s.world))) (held-step ss s.world p there)
    ∙ ap (λ (l : List ℕ). kept ss (all_held ss (step s.world p)) (a.stored ++ changed_words s.number p (origin_at ss p) l now))
    (below-at (held_at ss s.world) (length s.world.processes) p [] there)

-- and the others for which it stands
stores-stand : (s : Scene) (p k : ℕ) (a b : Stores) → 1 ≤ k → ((told s p ≡ Nothing → ⊥) → k ≡ 1) → AddsStores s p a b → TellsAll AddsStores s (replicate k p) a b
stores-stand s p zero a b some one first = absurd (omega (arith, some))
stores-stand s p (suc k) a b some one first = told-stands AddsStores s p (suc k) held one first each
  where
    held : ℕ → Stores
    held zero = a
    held (suc j) = b

    each : step_effect_in s.world p ≡ nothing → (n j : ℕ) → AddsStores (renumbered s n) p (held j) (held (suc j))
    each e n zero h =
        first h ∙ ap (λ (l : List Stored). kept a.sources (all_held a.sources (step s.world p)) (a.stored ++ l))
        (still-none a.sources s.number s.world p e ∙ sym (still-none a.sources n s.world p e))
    each e n (suc j) h =
        let ss : List (Option Source) = b.sources in
        ap (λ (l : List Stored). kept ss b.held l) (sym (append-nil b.stored))
        ∙ ap (λ (l : List Stored). kept ss b.held (b.stored ++ l)) (sym (still-none ss n s.world p e))
        ∙ ap (λ (l : List (List ℕ)). kept ss l (b.stored ++ stored_by ss n s.world p)) (h ∙ ap (all_held ss) (sym (still-world s.world p e)))

pub stores-told : (s : Scene) (x : Taken) (a b : Stores) → IsNext s x → x.pid < length x.world.now.processes
    → b ≡ stores_after x.number x.pid x.world.now a → TellsAll AddsStores s (replicate x.count x.pid) a b
stores-told s x a b n there is =
    let processes : length x.world.now.processes ≡ length s.world.processes = ap (λ (w : WorldState). length w.processes) n.world ∙ length-step s.world x.pid in
    stores-stand s x.pid x.count a b n.some (λ other. n.other (λ e. other (sym n.told ∙ e)))
    (stores-first s x.pid a b (omega (arith, there, processes))
    (is ∙ ap (λ k. stores_after k x.pid x.world.now a) n.number ∙ ap (λ w. stores_after s.number x.pid w a) n.world))

-- what these steps store, where each was told
pub stores-all : (s : Scene) (ps : List ℕ) (a b : Stores) → TellsAll AddsStores s ps a b → a.held ≡ all_held a.sources s.world
    → b.stored ≡ a.stored ++ stores_from a.sources s.number s.world ps
unfolding stores_from
stores-all s [] a b t h = ap (λ (k : Stores). k.stored) t ∙ sym (append-nil a.stored)
stores-all s (p ∷ ps) a c t h =
    let ss : List (Option Source) = a.sources in
    let more : List Stored = stored_by ss s.number s.world p in
    let is : t.0 ≡ kept ss (all_held ss (step s.world p)) (a.stored ++ more) = t.1 h in
    let behind : c.stored ≡ t.0.stored ++ stores_from t.0.sources (s.number + 1) (step s.world p) ps =
    stores-all (next s p) ps t.0 c t.2
    (ap (λ (k : Stores). k.held) is ∙ ap (λ (x : List (Option Source)). all_held x (step s.world p)) (sym (ap (λ (k : Stores). k.sources) is))) in
    behind ∙ ap (λ (k : Stores). k.stored ++ stores_from k.sources (s.number + 1) (step s.world p) ps) is
    ∙ append_assoc a.stored more (stores_from ss (s.number + 1) (step s.world p) ps)

-- no source has words
stores-without : (n : ℕ) (w : WorldState) (ps : List ℕ) → stores_from [] n w ps ≡ []
unfolding stores_from
stores-without n w [] = refl
stores-without n w (p ∷ ps) =
    ap (λ (l : List Stored). l ++ stores_from [] (n + 1) (step w p) ps) (changed-same n p 0 []) ∙ stores-without (n + 1) (step w p) ps

-- it is told what the steps store where a page has each of them
pub stores-shown : (w : WorldState) (s : List Block) (ss : List (Option Source))
    → stores_from (if is_whole s then ss else []) 1 w (steps_of s) ≡ stores_of w s ss
unfolding stores_of
stores-shown w s ss = by (is_whole s)
  where
    by : (b : Bool) → stores_from (if b then ss else []) 1 w (steps_of s) ≡ (if b then stores_from ss 1 w (steps_of s) else [])
    by true = refl
    by false = stores-without 1 w (steps_of s)

-- they have no floats
pub stores_plain : (ss : List Stored) → IsPlain (stores_data ss)
stores_plain ss = search plain
