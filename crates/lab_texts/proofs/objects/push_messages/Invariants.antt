use Rattle.std.proofs.Common.{◌≡◌, ◌++◌, take, flat_map, string_bytes}
use Rattle.lab_texts.specs.Objects.{message_line}
use Rattle.lab_texts.proofs.objects.push_messages.Given as goal

-- the messages so far are added
abbrev pub invariant-loop-i : goal.invariant-loop-i
invariant-loop-i l = string_bytes l.text ≡ string_bytes l.initial.text ++ flat_map message_line (take l.i l.queue.messages)
