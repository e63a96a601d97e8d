-- Walks that lead from a world to itself.
use Rattle.std.proofs.Common.{ℕ, zero, suc, ◌≡◌, ◌≤◌, ◌++◌, List, Option, Some, None, IfSome, sym, ap, subst, ◌∙◌, arith, length, replicate}
use Rattle.std.specs.List.{concat}
use Rattle.std.proofs.lemmas.List.{length-append}
use Rattle.lab_sched.specs.Worlds.{WorldState, run}
use Rattle.lab_sched.specs.Execution.{AreEffective}
use Rattle.lab_sched.specs.Schedules.{steps_of}
use Rattle.lab_sched.proofs.Executions.{effective-append}
use Rattle.lab_worlds.specs.declared.walking.Walk.{Walk}
use Rattle.lab_worlds.specs.declared.exploration.Lasso.{Lasso}
use Rattle.lab_search.specs.declared.store.Store.{Store}
use Rattle.lab_search.specs.Stored.{IsLike}
use Rattle.ipc_kernel.specs.Alike.{IsConsistent}
use Rattle.lab_worlds.specs.Calls.{AreAlike}
use Rattle.lab_worlds.proofs.AlikeWorlds.{world_itself, world_then, world_back, run_alike, effective_alike, consistent_run}
use Rattle.lab_worlds.specs.Walked.{IsWalk}
use Rattle.lab_worlds.specs.Lassos.{IsLasso, CanBeRepeated, AreEndless}
use Rattle.lab_search.proofs.FirstWorlds.{at_unique}

-- a walk to the world of a row, and one from there to the world of that row
pub walk_lasso : (start : WorldState) (first second : Walk) (t : Store) (i : ℕ) → IsWalk start first → IsLike t i first.world → IsWalk first.world second → IsLike t i second.world
    → 1 ≤ length (steps_of second.schedule) → IsLasso start (record { schedule = first.schedule; steps = second.schedule })
walk_lasso start first second t i h here k there some =
    let same : there.0 ≡ here.0 = at_unique t i there.0 here.0 there.1 here.1 in
    let alike : AreAlike first.world second.world = world_then first.world here.0 second.world (world_back here.0 first.world here.2) (subst (λ v. AreAlike v second.world) same there.2) in
    let lasso : run (run start (steps_of first.schedule)) (steps_of second.schedule) ≡ second.world = ap (λ w. run w (steps_of second.schedule)) h.leads ∙ k.leads in
    record {
      effective = h.effective;
      some = some;
      goes_on = subst (λ w. AreEffective w (steps_of second.schedule)) (sym h.leads) k.effective;
      returns = subst (λ w. AreAlike w (run (run start (steps_of first.schedule)) (steps_of second.schedule))) (sym h.leads) (subst (λ w. AreAlike first.world w) (sym lasso) alike);
    }

-- the lasso so many times, from a world alike
repeated : (w x : WorldState) (ps : List ℕ) → IsConsistent w.kernel → AreEffective w ps → AreAlike w (run w ps) → AreAlike w x → (n : ℕ) → AreEffective x (concat (replicate n ps))
repeated w x ps s effective returns a zero = tt
repeated w x ps s effective returns a (suc n) =
    let there = world_then w (run w ps) (run x ps) returns (run_alike ps w x s a) in
    effective-append x ps (concat (replicate n ps)) (effective_alike ps w x s a effective) (repeated w (run x ps) ps s effective returns there n)

-- a lasso can be repeated as often as one likes
lasso_repeats : (start : WorldState) (r : Lasso) → IsConsistent start.kernel → IsLasso start r → CanBeRepeated start r
lasso_repeats start r s h n =
    let w = run start (steps_of r.schedule) in
    effective-append start (steps_of r.schedule) (concat (replicate n (steps_of r.steps))) h.effective
    (repeated w w (steps_of r.steps) (consistent_run (steps_of r.schedule) start s) h.goes_on h.returns (world_itself w) n)

-- so many steps at least
long_enough : (ps : List ℕ) → 1 ≤ length ps → (n : ℕ) → n ≤ length (concat (replicate n ps))
long_enough ps some zero = omega arith
long_enough ps some (suc n) =
    let long = length-append ps (concat (replicate n ps)) in
    let more = long_enough ps some n in
    omega arith

pub some_repeats : (start : WorldState) (o : Option Lasso) → IsConsistent start.kernel → IfSome o (λ r. IsLasso start r) → IfSome o (λ r. CanBeRepeated start r)
some_repeats start None s h = h
some_repeats start (Some r) s h = lasso_repeats start r s h

pub some_endless : (start : WorldState) (o : Option Lasso) → IsConsistent start.kernel → IfSome o (λ r. IsLasso start r) → IfSome o (λ r. AreEndless start)
some_endless start None s h = h
some_endless start (Some r) s h = λ n.
    let lassos = concat (replicate n (steps_of r.steps)) in
    let long = length-append (steps_of r.schedule) lassos in
    let more = long_enough (steps_of r.steps) h.some n in
    (steps_of r.schedule ++ lassos, lasso_repeats start r s h n, omega arith)
