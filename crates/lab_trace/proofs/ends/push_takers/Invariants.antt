use Rattle.std.proofs.Common.{◌≡◌, string_bytes}
use Rattle.lab_texts.specs.Rows.{texts_below}
use Rattle.lab_trace.specs.Ends.{taker_text}
use Rattle.lab_trace.proofs.ends.push_takers.Given as goal

-- those so far are found
abbrev pub invariant-loop-pid : goal.invariant-loop-pid
invariant-loop-pid l = string_bytes l.found ≡ texts_below l.pid (taker_text l.world l.tally.units l.place)
