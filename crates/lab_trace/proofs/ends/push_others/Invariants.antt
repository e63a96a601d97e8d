use Rattle.std.proofs.Common.{◌≡◌, string_bytes}
use Rattle.lab_texts.specs.Rows.{texts_below}
use Rattle.lab_trace.specs.Ends.{other_text}
use Rattle.lab_trace.proofs.ends.push_others.Given as goal

-- those so far are found
abbrev pub invariant-loop-other : goal.invariant-loop-other
invariant-loop-other l = string_bytes l.found ≡ texts_below l.other-counter (other_text l.world.kernel l.pid l.place l.service)
