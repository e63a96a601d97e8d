-- Local steps up to a call.
use Rattle.std.proofs.Common.{◌≡◌, rules}
use Rattle.lab_sched.specs.Worlds.{Process}
use Rattle.lab_sched.specs.Verdicts.{HasEnded}
use Rattle.lab_worlds.specs.Calls.{IsAtCall}

-- and so is one that has ended
pub ended_at_call : (s u : Process) → u ≡ s → HasEnded s → IsAtCall u
ended_at_call x u same ended = search rules
