use Rattle.std.proofs.Common.{◌≡◌, replicate}
use Rattle.lab_notes.specs.Notes.{new_row}
use Rattle.lab_notes.proofs.rows.new_rows.Given as goal

-- the rows so far
abbrev pub invariant-loop : goal.invariant-loop
invariant-loop l = l.rows.items ≡ replicate l.counter new_row
