-- What a process does next.
use Rattle.std.specs.Prelude.{ℕ, ◌≡◌, ◌≤◌}
use Rattle.ipc_kernel.specs.declared.call.Call.{Call}
use Rattle.lab_sched.specs.Worlds.{Process, Running, Waiting, Ended, calls, next_action}
use Rattle.lab_sched.specs.LocalRun.{AreLocal}
use Rattle.lab_sched.specs.declared.calling.Next.{Next}
use Rattle.lab_sched.specs.declared.calling.Next.TheVariants as next
use Rattle.lab_sched.specs.Verdicts.{HasEnded}

-- a process asks for a call, or waits for it
abbrev pub AsksFor : Process → Call → Type 0
AsksFor (Running m) c = next_action m ≡ calls c
AsksFor (Waiting m d) c = d ≡ c
AsksFor (Ended e) c = ⊥

-- what process s does next, which is u then: local steps, which it took, a call, or nothing
abbrev pub IsNext : Process → ℕ → Next → Process → Type 0
IsNext s most (next.Moved n) u = (1 ≤ n) × (n ≤ most) × AreLocal n s u
IsNext s most (next.Asks c) u = (u ≡ s) × AsksFor s c
IsNext s most next.Ended u = (u ≡ s) × HasEnded s
IsNext s most next.Short u = u ≡ s
