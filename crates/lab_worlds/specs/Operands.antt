-- Steps at calls that work on one object: what they depend on, and what they change.
use Rattle.std.specs.Prelude.{ℕ, ◌≡◌, Some}
use Rattle.ipc_kernel.specs.declared.place.Place.{Place}
use Rattle.ipc_kernel.specs.declared.process.OpenTables.{OpenTables}
use Rattle.ipc_kernel.specs.declared.call.Call.{Call}
use Rattle.ipc_kernel.specs.Kernel.{KernelState, IsSettled}
use Rattle.ipc_kernel.specs.Operands.{operand_in, with_operand, HasOperand}
use Rattle.lab_sched.specs.Worlds.{Process, step_effect}
use Rattle.lab_sched.specs.Held.{step_of}
use Rattle.lab_conditions.specs.Conditions.{StandsAt}
use Rattle.lab_worlds.specs.Unwaiting.{GoesOn}

-- process s takes its step as p over kernel k and as q over kernel j: it goes on over k where it does
-- over j, becomes the same, and what it leaves in place i and in the tables of q over j it leaves in
-- place i and in the tables of p over k, of which it changes nothing else; and the same is told of it
pub record IsStepAlike (k j : KernelState) (p q : ℕ) (s : Process) (i : ℕ) : Type 0 where
  pub goes_on : GoesOn (step_effect j q (Some s)) → GoesOn (step_effect k p (Some s))
  pub process : (step_of k p s).process ≡ (step_of j q s).process
  pub told : (step_of k p s).told ≡ (step_of j q s).told
  pub kernel : (t : OpenTables) (o : Place) → HasOperand (step_of j q s).kernel q i t o
      → (step_of k p s).kernel ≡ with_operand k p i o t

-- a step at a call that works on one object depends on the tables of its process and on that object
-- alone, and changes nothing else, where the kernels are settled
abbrev pub StepsByOperand : Type 0
StepsByOperand = (k j : KernelState) (p q : ℕ) (s : Process) (c : Call) (i : ℕ)
    (t : OpenTables) (o : Place) → IsSettled k → IsSettled j → StandsAt s c → operand_in k t c ≡ Some i
    → operand_in j t c ≡ Some i → HasOperand k p i t o → HasOperand j q i t o → IsStepAlike k j p q s i

-- a step leaves a kernel settled
abbrev pub StepsSettled : Type 0
StepsSettled = (k : KernelState) (p : ℕ) (s : Process) → IsSettled k
    → IsSettled (step_of k p s).kernel
