-- What a running process asks by a trap, and what comes of its call.
use Rattle.std.specs.Prelude.{ℕ, ◌≡◌, Option, Some, None, Result, true}
use Rattle.lc3_machine.specs.Process.{Process as Machine, Held}
use Rattle.ipc_kernel.specs.Kernel.{KernelState}
use Rattle.ipc_kernel.specs.declared.call.Call.{Call}
use Rattle.ipc_traps.specs.Asked.{Refuses, Calls, next_request}
use Rattle.ipc_traps.specs.declared.Asked.{Asked}
use Rattle.ipc_traps.specs.declared.Asked.TheVariants as asked_for
use Rattle.ipc_traps.specs.Reply.{IsPrepared}
use Rattle.lab_sched.specs.declared.process.Process.TheVariants as kept
use Rattle.lab_sched.specs.Worlds.{Running, Waiting}
use Rattle.lab_sched.specs.LocalRun.{IsLocalStep}
use Rattle.lab_sched.specs.Held.{IsHeld}
use Rattle.lab_sched.specs.Private.Moved.{Came, HasMoved}

-- a running process m has asked, and is n: a call of the kernel, which changes nothing, or one that was refused, a local step
abbrev pub HasAsked : Machine → Asked → Machine → Type 0
HasAsked m (asked_for.Kernel c) n = (next_request m ≡ Calls c) × (n ≡ m)
HasAsked m (asked_for.Refused e) n = (next_request m ≡ Refuses e) × IsLocalStep (Running m) (Running n)

-- a process that has asked the kernel has room for each reply
abbrev pub HasRoomFor : Asked → Held → Type 0
HasRoomFor (asked_for.Kernel c) h = IsPrepared h
HasRoomFor (asked_for.Refused e) h = Unit {0}

-- process p, which ran as m over kernel k, has gone on: it runs as h over kernel j, and the call is told that must wait, if one must
abbrev pub HasGoneOn : KernelState → ℕ → Machine → KernelState → Held → Option Call → Type 0
HasGoneOn k p m j h None = HasMoved k p (Running m) j (Running h.process) true
HasGoneOn k p m j h (Some c) = HasMoved k p (Running m) j (Waiting m c) true × (h.process ≡ m) × IsHeld (kept.Waiting h c)

-- the same, where it may be refused memory: nothing has changed then
abbrev pub GoesOn : {E : Type 0} → KernelState → ℕ → Held → Result (Option Call) E → KernelState → Held → Type 0
GoesOn k p g result j h = Came (HasGoneOn k p g.process j h) k (kept.Running g) result j (kept.Running h)
