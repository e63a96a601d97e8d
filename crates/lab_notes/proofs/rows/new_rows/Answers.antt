use Rattle.std.proofs.Common.{◌≡◌, ap, ◌∙◌, replicate, arith}
use Rattle.lab_notes.specs.Notes.{new_row}
use Rattle.lab_notes.proofs.rows.new_rows.Goals as goal

pub returns : goal.returns
returns c =
    let all : c.loop.counter ≡ c.args.count = omega arith in
    record { rows = c.loop.invariant ∙ ap (λ n. replicate n new_row) all }
