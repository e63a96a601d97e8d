-- The JSON of a run, by its parts.
use Rattle.std.specs.Prelude.{ℕ, Bool, List, ◌∷◌, ◌++◌, codes, decimal, flat_map}
use Rattle.serde_json.specs.Data.{Data, boolean}
use Rattle.serde_json.specs.Written.{compact_text}
use Rattle.lab_page.specs.Stores.{stores_data}
use Rattle.lab_page.specs.declared.run.Stored.{Stored}

-- what stands behind the moments of a run: its end, its schedule, and whether each step with an effect has a moment
unfoldable pub run_end : Data → Data → Bool → List ℕ
run_end outcome blocks whole =
    codes "],\"outcome\":" ++ (compact_text outcome ++ (codes ",\"schedule\":" ++ (compact_text blocks ++ (codes ",\"whole\":"
    ++ (compact_text (boolean whole) ++ codes "}")))))

-- a run as JSON, with a number, and what its steps store
unfoldable pub end_json : ℕ → List ℕ → List Stored → List ℕ
end_json number run stores =
    (codes "[" ++ decimal number ++ codes ",") ++ (run ++ (codes "," ++ (compact_text (stores_data stores) ++ codes "]")))

-- what a page holds of a run: the processes, the run as JSON, and what its steps store
unfoldable pub page_json : Data → List ℕ → List Stored → List ℕ
page_json processes run stores =
    codes "{\"format\":\"lc3lab-page-3\",\"processes\":" ++ compact_text processes ++ codes ",\"run\":" ++ run
    ++ (codes ",\"stores\":" ++ compact_text (stores_data stores)) ++ codes "}"

-- values behind others in a list, as JSON: each with a comma before it
abbrev pub more_json : List Data → List ℕ
more_json ds = flat_map (λ d. 44 ∷ compact_text d) ds
