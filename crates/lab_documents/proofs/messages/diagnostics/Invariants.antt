use Rattle.std.proofs.Common.{map, take}
use Rattle.serde_json.specs.View.{view}
use Rattle.lab_documents.specs.Diagnostics.{AreOf}
use Rattle.lab_documents.proofs.messages.diagnostics.Given as goal

-- the values so far are of the messages so far
abbrev pub invariant-loop-told : goal.invariant-loop-told
invariant-loop-told l = AreOf (take l.told-index l.told-items) (map view l.values.items)
