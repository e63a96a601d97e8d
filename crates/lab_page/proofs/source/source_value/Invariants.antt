use Rattle.std.proofs.Common.{◌≡◌, map, take}
use Rattle.serde_json.specs.View.{view}
use Rattle.lab_page.specs.Sources.{row_data, source_shown}
use Rattle.lab_page.proofs.source.source_value.Given as goal

-- the rows so far are added
abbrev pub invariant-loop-row : goal.invariant-loop-row
invariant-loop-row l = map view l.rows.items ≡ map (row_data (source_shown l.source)) (take l.row-index l.source.rows.items)
