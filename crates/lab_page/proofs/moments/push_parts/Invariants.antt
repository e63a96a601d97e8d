use Rattle.std.proofs.Common.{◌≡◌, ◌++◌, take, flat_map}
use Rattle.lab_page.proofs.moments.push_parts.Given as goal

-- the parts so far are added
abbrev pub invariant-loop-part : goal.invariant-loop-part
invariant-loop-part l = l.json.items ≡ l.initial.json.items ++ flat_map (λ p. p.now) (take l.part-index l.parts)
