use Rattle.std.proofs.Common.{◌≡◌, ◌++◌, take, flat_map}
use Rattle.lab_template.specs.Pages.{safe_byte}
use Rattle.lab_template.proofs.page.push_safe.Given as goal

-- the bytes so far are added
abbrev pub invariant-loop-byte : goal.invariant-loop-byte
invariant-loop-byte l = l.bytes.items ≡ l.initial.bytes.items ++ flat_map safe_byte (take l.byte-index l.json)
