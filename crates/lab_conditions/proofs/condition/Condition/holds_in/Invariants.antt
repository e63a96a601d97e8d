use Rattle.std.proofs.Common.{map}
use Rattle.std.specs.List.{AllWithin}
use Rattle.lab_sched.specs.Held.{process_view}
use Rattle.lab_conditions.specs.Conditions.{PartHolds, world_of}
use Rattle.lab_conditions.proofs.condition.Condition.holds_in.Given as goal

-- the parts so far hold
abbrev pub invariant-loop-part : goal.invariant-loop-part
invariant-loop-part l =
    AllWithin (λ part. PartHolds part (world_of l.kernel (map (λ s. process_view s.now) l.processes))) l.self.parts.items 0 l.part-index
