-- Steps at calls that work on one object: what they depend on, and what they change.
use Rattle.std.proofs.Common.{ℕ, ◌≡◌, Some, rules}
use Rattle.ipc_kernel.specs.declared.place.Place.{Place}
use Rattle.ipc_kernel.specs.declared.process.OpenTables.{OpenTables}
use Rattle.ipc_kernel.specs.Kernel.{KernelState, IsSettled}
use Rattle.ipc_kernel.specs.Operands.{with_operand, HasOperand}
use Rattle.ipc_store.proofs.LocalCalls.{kept}
use Rattle.ipc_store.proofs.OperandAnswers.{answers_by_operand}
use Rattle.ipc_store.proofs.SettledAnswers.{stays_settled}
use Rattle.lab_sched.specs.Worlds.{Process, StepEffect, step_effect, kernel_after}
use Rattle.lab_worlds.specs.Operands.{IsStepAlike, StepsByOperand, StepsSettled}

-- steps with one effect, which leaves the kernels as the answers say
alike_by : (k j : KernelState) (p q : ℕ) (s : Process) (i : ℕ) (e : StepEffect) → step_effect k p (Some s) ≡ e → step_effect j q (Some s) ≡ e
    → ((t : OpenTables) (o : Place) → HasOperand (kernel_after j q e) q i t o → kernel_after k p e ≡ with_operand k p i o t) → IsStepAlike k j p q s i
alike_by k j p q s i e here there kernels = search rules

pub steps_by_operand : StepsByOperand
steps_by_operand k j p q s c i t o sk sj stands at_k at_j hk hj = search (rules, answers_by_operand, alike_by, kept)

settled_after : (k : KernelState) (p : ℕ) (e : StepEffect) → IsSettled k → IsSettled (kernel_after k p e)
settled_after k p x h = search (rules, stays_settled)

pub steps_settled : StepsSettled
steps_settled k p s h = settled_after k p (step_effect k p (Some s)) h
