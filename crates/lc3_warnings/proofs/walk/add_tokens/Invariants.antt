use Rattle.std.proofs.Common.{◌≡◌, ◌||◌, ℕ, List, length}
use Rattle.std.specs.List.{list_any}
use Rattle.lc3_table.specs.Tokens.{tokens}
use Rattle.lc3_warnings.specs.Private.Names.{is_among}
use Rattle.lc3_warnings.specs.Labels.{is_mention}
use Rattle.lc3_warnings.proofs.walk.add_tokens.Given as goal

-- the labels so far and those of the tokens that are left are all of them
abbrev pub invariant-loop-token : goal.invariant-loop-token
invariant-loop-token l = (name : List ℕ) → (is_among l.names name || list_any (is_mention name) (tokens l.rest)) ≡ (is_among l.initial.names name || list_any (is_mention name) (tokens l.line))

abbrev pub decreases-loop-token : goal.decreases-loop-token
decreases-loop-token l = length l.rest
