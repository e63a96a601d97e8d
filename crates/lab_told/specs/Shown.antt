-- What the line of a call shows of its answer.
use Rattle.std.specs.Prelude.{◌≡◌, ℕ, Some, slice_get}
use Rattle.lc3_machine.specs.Process.{Process as Machine}
use Rattle.ipc_names.specs.declared.errno.Errno.{Errno}
use Rattle.ipc_kernel.specs.declared.call.Call.{Call}
use Rattle.ipc_kernel.specs.declared.call.Answer.{Answer}
use Rattle.ipc_kernel.specs.Answer.{answer}
use Rattle.ipc_traps.specs.Asked.{Refuses, next_request}
use Rattle.lab_sched.specs.Worlds.{Running, kernel_step, step_effect_in}
use Rattle.lab_told.specs.Answers.{answered, wants_attributes, wanted_of}
use Rattle.lab_told.specs.Scenes.{Scene, told}
use Rattle.lab_told.specs.declared.answers.Outcome.TheVariants.{Refused}
use Rattle.lab_told.specs.declared.told.Act.TheVariants.{Calls}
use Rattle.lab_told.specs.declared.told.Called.{Called}
use Rattle.lab_told.specs.declared.told.Event.{Event}
use Rattle.lab_told.specs.declared.told.Told.TheVariants.{Shown}

-- where a step is a call of the kernel, the call that is shown of it became what the kernel before the step answers, but for
-- attributes that it doesn't want
abbrev pub ShowsAnswer : Type 0
ShowsAnswer = (s : Scene) (p : ℕ) (m : Machine) (c : Call) (a : Answer) (e : Event) (called : Called)
    → step_effect_in s.world p ≡ kernel_step m c a → told s p ≡ Shown e → e.act ≡ Calls called
    → called.outcome ≡ wanted_of (wants_attributes m called.service) (answered (answer s.world.kernel p c).0)

-- where it is a call that is refused without the kernel, the call that is shown was refused with this error
abbrev pub ShowsRefusal : Type 0
ShowsRefusal = (s : Scene) (p : ℕ) (m : Machine) (f : Errno) (e : Event) (called : Called)
    → slice_get s.world.processes p ≡ Some (Running m) → next_request m ≡ Refuses f → told s p ≡ Shown e → e.act ≡ Calls called
    → called.outcome ≡ Refused f
