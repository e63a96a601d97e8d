use Rattle.std.proofs.Common.{◌≡◌, take, flat_map, string_bytes}
use Rattle.std.specs.Option.{option_copied}
use Rattle.lab_questions.specs.Left.{left_line}
use Rattle.lab_questions.proofs.left.left_lines.Given as goal

-- the lines of the messages so far
abbrev pub invariant-loop-i : goal.invariant-loop-i
invariant-loop-i l = string_bytes l.text ≡ flat_map (left_line (option_copied l.name)) (take l.i l.queue.messages)
