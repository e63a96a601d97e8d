use Rattle.std.proofs.Common.{◌≡◌}
use Rattle.lab_told.specs.Openers.{any_below, serves_by}
use Rattle.lab_told.proofs.openers.has_open.Given as goal

-- whether one so far does
abbrev pub invariant-loop-number : goal.invariant-loop-number
invariant-loop-number l = l.found ≡ any_below l.number (serves_by l.kernel l.pid l.place l.service)
