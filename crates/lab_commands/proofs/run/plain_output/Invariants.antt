use Rattle.std.proofs.Common.{◌≡◌}
use Rattle.lab_commands.specs.Plain.{plain_part}
use Rattle.lab_texts.specs.Rows.{texts_below}
use Rattle.lab_commands.proofs.run.plain_output.Given as goal

-- the parts of the processes so far
abbrev pub invariant-loop-pid : goal.invariant-loop-pid
invariant-loop-pid l = l.bytes.items ≡ texts_below l.pid (λ pid. plain_part pid l.world)
