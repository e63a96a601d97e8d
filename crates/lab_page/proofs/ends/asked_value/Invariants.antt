use Rattle.std.proofs.Common.{◌≡◌, map, take}
use Rattle.serde_json.specs.View.{view}
use Rattle.lab_page.specs.Asked.{asked_data}
use Rattle.lab_page.proofs.ends.asked_value.Given as goal

-- what was asked so far is added
abbrev pub invariant-loop-one : goal.invariant-loop-one
invariant-loop-one l = map view l.values.items ≡ map asked_data (take l.one-index l.asked)
