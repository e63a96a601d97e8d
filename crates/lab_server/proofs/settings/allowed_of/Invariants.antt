use Rattle.std.proofs.Common.{◌≡◌, map, take}
use Rattle.serde_json.specs.View.{view}
use Rattle.lab_server.specs.Settings.{allowed_of}
use Rattle.lab_server.proofs.settings.allowed_of.Given as goal

-- the names so far that are left out
abbrev pub invariant-loop-name : goal.invariant-loop-name
invariant-loop-name l = map (λ name. name.now) l.allowed.items ≡ allowed_of (map (λ name. name.now) (take l.name-index l.names)) (map view l.left_out)
