-- Processes that stop steps.
use Rattle.std.specs.Prelude.{ℕ, Bool, if◌then◌else◌, Option, Some, None}

-- a process, where this holds
abbrev pub only_if : Bool → ℕ → Option ℕ
only_if b pid = if b then Some pid else None
