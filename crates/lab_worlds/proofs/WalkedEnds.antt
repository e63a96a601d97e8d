-- The ends of walks.
use Rattle.std.proofs.Common.{ℕ, ◌≡◌, rules}
use Rattle.ipc_kernel.specs.Kernel.{KernelState}
use Rattle.lab_sched.specs.Worlds.{Process, WorldState}
use Rattle.lab_sched.specs.Finished.{IsAtRest}
use Rattle.lab_sched.specs.Verdicts.{IsVerdict, HasEnded}
use Rattle.lab_sched.specs.declared.verdict.Verdict.{Verdict}
use Rattle.lab_sched.specs.declared.verdict.Verdict.TheVariants as verdict
use Rattle.lab_sched.proofs.IneffectiveProcesses.{at_rest}
use Rattle.lab_worlds.specs.declared.ends.End.{End}
use Rattle.lab_worlds.specs.declared.walking.Walk.{Walk}
use Rattle.lab_worlds.specs.Closed.{AreAtRest}
use Rattle.lab_worlds.specs.Walked.{IsWalk}
use Rattle.lab_worlds.specs.Ends.{IsEnd}
use Rattle.lab_worlds.proofs.HeldAdvances.{idle}

ended_rests : (k : KernelState) (p : ℕ) (s : Process) → HasEnded s → IsAtRest k p s
ended_rests k p x h = search rules

-- a world that isn't open is at rest
pub verdict_rests : (w : WorldState) (v : Verdict) → IsVerdict w v → (v ≡ verdict.Open → ⊥) → AreAtRest w
verdict_rests w x h n p s at = search (rules, ended_rests, idle, at_rest)

-- the end of a walk
pub walk_end : (start : WorldState) (walk : Walk) (v : Verdict) (e : End) → IsWalk start walk → IsVerdict walk.world v → (v ≡ verdict.Open → ⊥)
    → e ≡ record { world = walk.world; schedule = walk.schedule; verdict = v; calls = walk.calls } → IsEnd start e
walk_end start walk v e h stands closed same = search (rules, verdict_rests)
