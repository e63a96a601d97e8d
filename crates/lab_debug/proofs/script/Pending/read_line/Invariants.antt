use Rattle.std.proofs.Common.{◌≤◌, ◌-◌, length}
use Rattle.std.specs.Io.KnownBytes.{prepend_known}
use Rattle.lab_debug.proofs.LineLemmas.{IsWithin}
use Rattle.lab_debug.specs.Lines.{line_limit}
use Rattle.lab_debug.proofs.script.Pending.read_line.Given as goal

-- what came is this line so far and what still comes
abbrev pub invariant-loop-next : goal.invariant-loop-next
invariant-loop-next g l = record {
  within : IsWithin (prepend_known l.initial.self (g.R.Read.remaining l.initial.input.device)) (prepend_known l.self (g.R.Read.remaining l.input.device)) l.line.items;
  short : length l.line.items ≤ line_limit;
}

abbrev pub decreases-loop-next : goal.decreases-loop-next
decreases-loop-next g l = line_limit - length l.line.items
