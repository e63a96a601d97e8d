-- What must never be so of one process by itself, which a reduced search shows.
use Rattle.std.specs.Prelude.{◌≡◌, false, [], ◌∷◌}
use Rattle.lab_conditions.specs.declared.condition.Part.{Part}
use Rattle.lab_conditions.specs.declared.condition.Part.TheVariants.{Semaphore, Queue, Of, MoreThan}
use Rattle.lab_conditions.specs.declared.condition.Condition.{Condition}
use Rattle.lab_conditions.specs.declared.never.Never.{Never}
use Rattle.lab_conditions.specs.declared.never.Never.TheVariants as never
use Rattle.lab_conditions.specs.Conditions.{part_needs_kernel}

-- the part says of one process how it stands
abbrev pub IsOfOne : Part → Type 0
IsOfOne (Semaphore name r x) = ⊥
IsOfOne (Queue name r x) = ⊥
IsOfOne (Of p x) = Unit {0}
IsOfOne (MoreThan x n) = n ≡ 0

-- the condition says so, whatever the kernel
pub record IsOfOneProcess (c : Condition) : Type 0 where
  pub part : Part
  pub only : c.parts.items ≡ part ∷ []
  pub one : IsOfOne part
  pub free : part_needs_kernel part ≡ false

-- it can be judged by what one process does: how it stands, or whether a call is refused
abbrev pub KeepsReduction : Never → Type 0
KeepsReduction (never.Holds c) = IsOfOneProcess c
KeepsReduction never.Lost = ⊥
KeepsReduction (never.Refused r) = Unit {0}
