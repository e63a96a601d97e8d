use Rattle.std.proofs.Common.{◌≡◌, nat_lt}
use Rattle.lab_told.specs.Units.{units_of, balance}
use Rattle.lab_notes.specs.Objects.{first_below}
use Rattle.lab_notes.proofs.waiting.taker_of.Given as goal

-- the first so far
abbrev pub invariant-loop-pid : goal.invariant-loop-pid
invariant-loop-pid l = l.found ≡ first_below l.pid (λ p. nat_lt 0 (balance (units_of l.place p l.tally.units)))
