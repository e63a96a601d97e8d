-- An independent step of a process that is taken before the steps of others, or passes them: meanwhile nothing of it changes.
use Rattle.std.proofs.Common.{ℕ, suc, ◌+◌, ◌≡◌, arith, true, List, [], ◌∷◌, refl, sym, ap, subst, ◌∙◌, slice_get, inl, inr, ◌⊎◌}
use Rattle.std.proofs.lemmas.Bool.Decides.{eqb_tells}
use Rattle.ipc_kernel.specs.Operands.{are_named}
use Rattle.ipc_store.specs.declared.uses.ProcessUse.{ProcessUse}
use Rattle.lab_sched.specs.Worlds.{WorldState, step_effect_in, step, run}
use Rattle.lab_sched.proofs.Commutes.{after_other}
use Rattle.lab_worlds.specs.Unwaiting.{GoesOn}
use Rattle.lab_worlds.specs.Independent.{KeepsTo, IsIndependent}
use Rattle.lab_worlds.proofs.FewestCalls.{calls_in}
use Rattle.lab_worlds.proofs.IndependentSteps.{AreIndependent, independent, named_after}
use Rattle.lab_worlds.proofs.OnwardSteps.{AreOnward, AreCalm, AreFronted, calls_along, calls_more}

-- the same steps, after a step of process p, which can be taken after them too; before it and after them p is the same, and makes
-- the same step
pub record ArePassed (uses : List ProcessUse) (w : WorldState) (p : ℕ) (qs : List ℕ) : Type 0 where
  pub onward : AreOnward (step w p) qs
  pub leads : run (step w p) qs ≡ step (run w qs) p
  pub process : slice_get (run w qs).processes p ≡ slice_get w.processes p
  pub effect : step_effect_in (run w qs) p ≡ step_effect_in w p
  pub stays : IsIndependent uses (run w qs).kernel p (step_effect_in (run w qs) p)
  pub keeps : KeepsTo uses (run w qs) p
  pub named : are_named (run w qs).kernel.places ≡ true

-- an independent step of process p is among the steps, or it passes them
pub fronted_or_passed : (uses : List ProcessUse) (qs : List ℕ) (w : WorldState) (p : ℕ) → are_named w.kernel.places ≡ true → IsIndependent uses w.kernel p (step_effect_in w p) → KeepsTo uses w p
    → AreOnward w qs → AreCalm uses w qs → AreFronted w p qs ⊎ ArePassed uses w p qs
unfolding run
fronted_or_passed uses [] w p named own keeps onward calm = inr (record { onward = tt; leads = refl; process = refl; effect = refl; stays = own; keeps = keeps; named = named })
fronted_or_passed uses (q ∷ qs) w p named own keeps onward calm = elim (eqb_tells p q) [
  | inl same ↦
      let is : q ≡ p = sym same.1 in
      inl (record {
        rest = qs;
        onward = subst (λ n. AreOnward (step w n) qs) is onward.1;
        leads = ap (λ n. run (step w n) qs) same.1;
        shorter = refl;
        calls = subst (λ n. calls_along w (n ∷ qs) ≡ calls_in p (step_effect_in w p) + calls_along (step w p) qs) same.1 (calls_more w p qs);
      })
  | inr other ↦
      let both = independent uses w p q other.1 named calm.0.low own onward.0 (calm.0.keep q) in
      let own_then = subst (IsIndependent uses (step w q).kernel p) (sym both.first) both.stays in
      let goes : GoesOn (step_effect_in (step w p) q) = subst GoesOn (sym both.second) onward.0 in
      elim (fronted_or_passed uses qs (step w q) p (named_after uses w q named (calm.0.keep q)) own_then (both.keeps keeps) onward.1 calm.1) [
        | inl f ↦ inl (front w p q qs both goes f)
        | inr f ↦ inr (record {
          onward = (goes, subst (λ x. AreOnward x qs) (sym both.world) f.onward);
          leads = ap (λ x. run x qs) both.world ∙ f.leads;
          process = f.process ∙ after_other w p q (step_effect_in w q) (λ e. other.1 (sym e));
          effect = f.effect ∙ both.first;
          stays = f.stays;
          keeps = f.keeps;
          named = f.named;
        })
      ]
]
  where
    front : (w : WorldState) (p q : ℕ) (qs : List ℕ) → AreIndependent uses w p q → GoesOn (step_effect_in (step w p) q) → AreFronted (step w q) p qs → AreFronted w p (q ∷ qs)
    front w p q qs both goes f = record {
      rest = q ∷ f.rest;
      onward = (goes, subst (λ x. AreOnward x f.rest) (sym both.world) f.onward);
      leads = ap (λ x. run x f.rest) both.world ∙ f.leads;
      shorter = ap suc f.shorter;
      calls =
          let one = calls_more w q qs in
          let other = calls_more (step w p) q f.rest in
          let these = f.calls in
          let first = ap (calls_in p) both.first in
          let second = ap (calls_in q) both.second in
          let there = ap (λ x. calls_along x f.rest) both.world in
          omega (arith, one, other, these, first, second, there);
    }
