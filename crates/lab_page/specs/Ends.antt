-- What a page holds of the ends of an exploration.
use Rattle.std.specs.Prelude.{ℕ, ◌+◌, nat_le, nat_lt, ◌&&◌, not, Bool, true, false, if◌then◌else◌, Option, List, [], ◌∷◌, ◌++◌, length, codes}
use Rattle.std.specs.Option.{option_map}
use Rattle.serde_json.specs.Data.{Data, boolean}
use Rattle.serde_json.specs.Written.{compact_text, comma_if}
use Rattle.lab_sched.specs.declared.schedule.Block.{Block}
use Rattle.lab_template.specs.Limits.{most_ends, most_end_bytes}
use Rattle.lab_page.specs.Runs.{schedule_data}
use Rattle.lab_moments.specs.Values.{list, natural, or_null}
use Rattle.lab_page.specs.declared.ends.Endless.{Endless as HeldEndless}
use Rattle.lab_page.specs.Asked.{asked_list}
use Rattle.lab_page.specs.Stores.{stores_data}
use Rattle.lab_page.specs.declared.ends.Asked.{Asked}
use Rattle.lab_page.specs.declared.run.Stored.{Stored}
use Rattle.lab_page.specs.Worlds.{Worlds, worlds_json}
use Rattle.lab_page.specs.declared.ends.Extent.{Extent}

-- a run with a number, as how many calls lead to its end, and what its steps store
abbrev pub end_data : ℕ → Data → List Stored → Data
end_data number run stores = list (natural number ∷ run ∷ stores_data stores ∷ [])

-- the runs to the first ends as JSON, with commas between them, how many there are, and whether there is no room for another
pub record EndList : Type 0 where
  pub json : List ℕ
  pub count : ℕ
  pub full : Bool

-- the runs with another behind them
abbrev pub json_with : EndList → List ℕ → List ℕ
json_with l e = l.json ++ (comma_if (nat_lt 0 l.count) ++ e)

-- whether there is room for a run behind those that are shown
abbrev pub has_room : EndList → List ℕ → Bool
has_room l e = not l.full && (nat_lt l.count most_ends && nat_le (length (json_with l e)) most_end_bytes)

-- the list with the run to the next end as JSON, where there is room for it; once there is none, none is added
abbrev pub with_end : EndList → List ℕ → EndList
with_end l e = if has_room l e then record { json = json_with l e; count = l.count + 1; full = false } else record l { full = true }

-- an interleaving that never ends: what leads to a world, what leads from there to itself or to one alike, and the number of the
-- run on the page by both
abbrev pub endless_data : List Block → List Block → Option ℕ → Data
endless_data s lasso run = list (schedule_data s ∷ schedule_data lasso ∷ or_null (option_map natural run) ∷ [])

-- the same where it is kept
abbrev pub endless_shown : HeldEndless → Data
endless_shown e = endless_data e.schedule.now e.lasso.now e.run

-- how far an exploration went
abbrev pub extent_data : Extent → Data
extent_data x =
    list (boolean x.complete ∷ natural x.worlds ∷ natural x.ends ∷ natural x.most_worlds ∷ natural x.most_steps
    ∷ natural x.most_memory ∷ boolean x.refused ∷ boolean x.first ∷ [])

-- what a page holds of ends, as JSON: what was asked, an interleaving that never ends, where there is one, the runs to the ends, how
-- far the exploration went, the processes, the other runs, and all worlds, where they are drawn
abbrev pub ends_json : Data → EndList → EndList → List Asked → Option Data → Extent → Option Worlds → List ℕ
ends_json processes l others asked endless extent worlds =
    codes "{\"asked\":" ++ compact_text (asked_list asked) ++ codes ",\"endless\":" ++ compact_text (or_null endless)
    ++ codes ",\"ends\":[" ++ l.json ++ codes "],\"extent\":" ++ compact_text (extent_data extent)
    ++ codes ",\"format\":\"lc3lab-ends-3\",\"processes\":" ++ compact_text processes ++ codes ",\"runs\":[" ++ others.json
    ++ codes "],\"worlds\":" ++ worlds_json worlds ++ codes "}"
