-- The limit of a run on threads.
use Rattle.std.specs.Prelude.{ℕ}

-- the most steps that each process of a run may be allowed
abbrev pub most_steps_each : ℕ
most_steps_each = 10000000
