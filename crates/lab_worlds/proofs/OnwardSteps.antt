-- Lists of steps by which processes go on, and an independent step that is taken before them.
use Rattle.std.proofs.Common.{ℕ, suc, ◌+◌, ◌≡◌, ◌≢◌, arith, true, List, [], ◌∷◌, ◌++◌, refl, sym, ap, subst, ◌∙◌, length, inl, inr, ◌⊎◌}
use Rattle.std.proofs.lemmas.Bool.Decides.{eqb_tells}
use Rattle.std.proofs.lemmas.List.{length-append}
use Rattle.ipc_kernel.specs.Operands.{are_named}
use Rattle.ipc_store.specs.declared.uses.ProcessUse.{ProcessUse}
use Rattle.lab_sched.specs.Worlds.{WorldState, step_effect_in, step, run, entry_of, entries}
use Rattle.lab_worlds.specs.Unwaiting.{GoesOn}
use Rattle.lab_worlds.specs.Independent.{KeepsTo, IsCalm, IsIndependent}
use Rattle.lab_worlds.proofs.FewestCalls.{calls_in}
use Rattle.lab_worlds.proofs.IndependentSteps.{AreIndependent, independent, named_after}

-- by each step a process goes on
abbrev pub AreOnward : WorldState → List ℕ → Type 0
AreOnward w [] = Unit {0}
AreOnward w (p ∷ ps) = GoesOn (step_effect_in w p) × AreOnward (step w p) ps

-- each step is taken from a calm world
abbrev pub AreCalm : List ProcessUse → WorldState → List ℕ → Type 0
AreCalm uses w [] = Unit {0}
AreCalm uses w (p ∷ ps) = IsCalm uses w × AreCalm uses (step w p) ps

-- how many are calls
abbrev pub calls_along : WorldState → List ℕ → ℕ
calls_along w ps = length (entries w ps)

pub calls_more : (w : WorldState) (p : ℕ) (ps : List ℕ) → calls_along w (p ∷ ps) ≡ calls_in p (step_effect_in w p) + calls_along (step w p) ps
unfolding entries
calls_more w p ps = length-append (entry_of p (step_effect_in w p)) (entries (step w p) ps)

-- the same steps but for one of process p, which is taken before them
pub record AreFronted (w : WorldState) (p : ℕ) (qs : List ℕ) : Type 0 where
  pub rest : List ℕ
  pub onward : AreOnward (step w p) rest
  pub leads : run (step w p) rest ≡ run w qs
  pub shorter : suc (length rest) ≡ length qs
  pub calls : calls_along w qs ≡ calls_in p (step_effect_in w p) + calls_along (step w p) rest

-- the same steps, after a step of process p, which can be taken after them too
pub record ArePassed (uses : List ProcessUse) (w : WorldState) (p : ℕ) (qs : List ℕ) : Type 0 where
  pub onward : AreOnward (step w p) qs
  pub leads : run (step w p) qs ≡ step (run w qs) p
  pub stays : IsIndependent uses (run w qs).kernel p (step_effect_in (run w qs) p)
  pub keeps : KeepsTo uses (run w qs) p
  pub named : are_named (run w qs).kernel.places ≡ true

-- an independent step of process p is among the steps, or it passes them
pub fronted_or_passed : (uses : List ProcessUse) (qs : List ℕ) (w : WorldState) (p : ℕ) → are_named w.kernel.places ≡ true → IsIndependent uses w.kernel p (step_effect_in w p) → KeepsTo uses w p
    → AreOnward w qs → AreCalm uses w qs → AreFronted w p qs ⊎ ArePassed uses w p qs
unfolding run entries
fronted_or_passed uses [] w p named own keeps onward calm = inr (record { onward = tt; leads = refl; stays = own; keeps = keeps; named = named })
fronted_or_passed uses (q ∷ qs) w p named own keeps onward calm = elim (eqb_tells p q) [
  | inl same ↦
      let is : q ≡ p = sym same.1 in
      inl (record {
        rest = qs;
        onward = subst (λ n. AreOnward (step w n) qs) is onward.1;
        leads = ap (λ n. run (step w n) qs) same.1;
        shorter = refl;
        calls = subst (λ n. calls_along w (n ∷ qs) ≡ calls_in p (step_effect_in w p) + calls_along (step w p) qs) same.1 (calls_more w p qs);
      })
  | inr other ↦
      let both = independent uses w p q other.1 named calm.0.low own onward.0 (calm.0.keep q) in
      let own_then = subst (IsIndependent uses (step w q).kernel p) (sym both.first) both.stays in
      let goes : GoesOn (step_effect_in (step w p) q) = subst GoesOn (sym both.second) onward.0 in
      elim (fronted_or_passed uses qs (step w q) p (named_after uses w q named (calm.0.keep q)) own_then (both.keeps keeps) onward.1 calm.1) [
        | inl f ↦ inl (front w p q qs both goes f)
        | inr f ↦ inr (record {
          onward = (goes, subst (λ x. AreOnward x qs) (sym both.world) f.onward);
          leads = ap (λ x. run x qs) both.world ∙ f.leads;
          stays = f.stays;
          keeps = f.keeps;
          named = f.named;
        })
      ]
]
  where
    front : (w : WorldState) (p q : ℕ) (qs : List ℕ) → AreIndependent uses w p q → GoesOn (step_effect_in (step w p) q) → AreFronted (step w q) p qs → AreFronted w p (q ∷ qs)
    front w p q qs both goes f = record {
      rest = q ∷ f.rest;
      onward = (goes, subst (λ x. AreOnward x f.rest) (sym both.world) f.onward);
      leads = ap (λ x. run x f.rest) both.world ∙ f.leads;
      shorter = ap suc f.shorter;
      calls =
          let one = calls_more w q qs in
          let other = calls_more (step w p) q f.rest in
          let these = f.calls in
          let first = ap (calls_in p) both.first in
          let second = ap (calls_in q) both.second in
          let there = ap (λ x. calls_along x f.rest) both.world in
          omega (arith, one, other, these, first, second, there);
    }

-- each step is taken from a calm world, where all that some of the steps lead to, but not all, are calm
pub calm_by : (uses : List ProcessUse) (ps : List ℕ) (w : WorldState) → ((qs : List ℕ) (r : ℕ) (rs : List ℕ) → ps ≡ qs ++ r ∷ rs → IsCalm uses (run w qs)) → AreCalm uses w ps
unfolding run
calm_by uses [] w h = tt
calm_by uses (p ∷ ps) w h = (h [] p ps refl, calm_by uses ps (step w p) (λ qs r rs e. h (p ∷ qs) r rs (ap (λ xs. p ∷ xs) e)))
