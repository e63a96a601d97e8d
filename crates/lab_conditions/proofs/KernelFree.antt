-- Conditions that hold over any kernel.
use Rattle.std.proofs.Common.{ℕ, ◌≡◌, false, List, All, ◌∙◌, arith, rules}
use Rattle.std.specs.List.{list_any}
use Rattle.std.proofs.lemmas.Bool.{or_parts}
use Rattle.std.proofs.lemmas.List.Elements.{All-nil, All-cons}
use Rattle.ipc_kernel.specs.Kernel.{KernelState}
use Rattle.lab_sched.specs.Worlds.{Process}
use Rattle.lab_conditions.specs.declared.condition.State.{State}
use Rattle.lab_conditions.specs.declared.condition.Part.{Part}
use Rattle.lab_conditions.specs.declared.condition.Part.TheVariants.{Semaphore, Queue, Of, MoreThan}
use Rattle.lab_conditions.specs.declared.condition.Condition.{Condition}
use Rattle.lab_conditions.specs.Conditions.{is_so, PartHolds, world_of, needs_kernel, part_needs_kernel, HoldsOverAny}
use Rattle.lab_conditions.proofs.CarriedConditions.{count_le}
use Rattle.std.proofs.lemmas.Grind.{common_steps}

-- a process stands so, or doesn't, whatever the kernel
abbrev IsSoOverAny : State → Type 0
IsSoOverAny x = (k j : KernelState) (p : ℕ) (s : Process) → is_so x k p s ≡ is_so x j p s

so_over_any : (x : State) → needs_kernel x ≡ false → IsSoOverAny x
so_over_any x free = search rules

-- a part holds of some processes over any kernel, where it holds of them over one
abbrev PartHoldsOverAny : Part → Type 0
PartHoldsOverAny part = (k j : KernelState) (ps : List Process) → PartHolds part (world_of k ps) → PartHolds part (world_of j ps)

part_over_any : (part : Part) → part_needs_kernel part ≡ false → PartHoldsOverAny part
part_over_any (Semaphore name r x) free = absurd (cc)
part_over_any (Queue name r x) free = absurd (cc)
part_over_any (Of p x) free = λ k j ps h. (h.0, h.1, so_over_any x free j k p h.0 ∙ h.2)
part_over_any (MoreThan x n) free = search (rules, count_le, so_over_any)

parts_over_any : (parts : List Part) → list_any part_needs_kernel parts ≡ false → All PartHoldsOverAny parts
parts_over_any x none = grind (arith, common_steps, All-nil, or_parts, All-cons, part_over_any)

-- a condition holds over any kernel where none of its parts needs one
pub condition_over_any : (c : Condition) → list_any part_needs_kernel c.parts.items ≡ false → HoldsOverAny c
condition_over_any c none k j ps holds = λ i d within. parts_over_any c.parts.items none i d within k j ps (holds i d within)
