use Rattle.std.proofs.Common.{◌≡◌, take, drop, []}
use Rattle.lc3_table.specs.Tokens.{tokens_from, Inside}
use Rattle.lc3_asm.proofs.TokenSteps.{place}
use Rattle.lc3_asm.proofs.line.quoted.Given as goal

abbrev pub invariant-loop-i : goal.invariant-loop-i
invariant-loop-i l = tokens_from (Inside []) l.text ≡ tokens_from (place l.escaped (take l.i l.text)) (drop l.i l.text)
