-- What no step and no verdict tells apart: worlds with the same processes over kernels that are
-- alike.
use Rattle.std.specs.Prelude.{ℕ, ◌≡◌}
use Rattle.ipc_kernel.specs.Alike.{IsConsistent}
use Rattle.lab_sched.specs.Worlds.{WorldState, step_effect_in, step}
use Rattle.lab_sched.specs.Verdicts.{IsVerdict}
use Rattle.lab_sched.specs.declared.verdict.Verdict.{Verdict}
use Rattle.lab_worlds.specs.Calls.{AreAlike}

-- worlds that are alike make the same step, and are alike after it
abbrev pub StepsAlike : Type 0
StepsAlike = (w v : WorldState) (p : ℕ) → IsConsistent w.kernel → AreAlike w v
    → (step_effect_in v p ≡ step_effect_in w p) × AreAlike (step w p) (step v p)

-- worlds that are alike stand alike
abbrev pub OneVerdict : Type 0
OneVerdict = (w v : WorldState) (x : Verdict) → IsConsistent w.kernel → AreAlike w v
    → IsVerdict w x → IsVerdict v x
