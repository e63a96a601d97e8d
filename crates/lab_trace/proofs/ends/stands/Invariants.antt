use Rattle.std.proofs.Common.{◌≡◌, slice_get, string_bytes}
use Rattle.lab_texts.specs.Rows.{texts_below}
use Rattle.lab_trace.specs.Ends.{stand_line}
use Rattle.lab_trace.proofs.ends.stands.Given as goal

-- the lines so far
abbrev pub invariant-loop-pid : goal.invariant-loop-pid
invariant-loop-pid l = string_bytes l.text ≡ texts_below l.pid (λ p. stand_line l.form l.world l.tally p (slice_get l.world.processes p))
