-- The JSON of lists and of a run.
use Rattle.std.proofs.Common.{◌≡◌, ℕ, Bool, true, List, [], ◌∷◌, ◌++◌, codes, refl, append_assoc}
use Rattle.std.proofs.lemmas.Grind.{flat_map-append}
use Rattle.serde_json.specs.Data.{Data}
use Rattle.serde_json.specs.View.{items_of}
use Rattle.serde_json.specs.Written.{compact_text, items_text}
use Rattle.serde_json.proofs.OnLiterals.{serde_json_on_literals}
use Rattle.lab_page.specs.Ends.{end_data}
use Rattle.lab_page.specs.Private.Json.{more_json, run_end, end_json, page_json}
use Rattle.lab_page.specs.Runs.{run_with, page_data}
use Rattle.lab_page.specs.declared.run.Stored.{Stored}

pub more-append : (xs ys : List Data) → more_json (xs ++ ys) ≡ more_json xs ++ more_json ys
more-append xs ys = flat_map-append (λ (d : Data). 44 ∷ compact_text d) xs ys

-- values behind others, and the end of the list
items-more : (ds : List Data) → items_text true (items_of ds) ≡ more_json ds ++ 93 ∷ []
items-more [] = refl
items-more (d ∷ ds) = simp (items-more ds, append_assoc)

-- a run by its parts
pub run-json : (s : Data) (ms : List Data) (o b : Data) (w : Bool)
    → ((codes "{\"moments\":[" ++ compact_text s) ++ more_json ms) ++ run_end o b w ≡ compact_text (run_with (s ∷ ms) o b w)
unfolding run_end serde_json_on_literals
run-json s ms o b w = simp (items-more ms, append_assoc)

-- a run with a number, and what its steps store
pub end_json_of : (calls : ℕ) (r : Data) (x : List Stored) → end_json calls (compact_text r) x ≡ compact_text (end_data calls r x)
unfolding end_json
end_json_of calls r x = simp append_assoc

-- a page of a run
page-parts : (a p b r c s d : List ℕ) → ((((a ++ p) ++ b) ++ r) ++ (c ++ s)) ++ d ≡ a ++ (p ++ (b ++ (r ++ (c ++ (s ++ d)))))
page-parts a p b r c s d = simp append_assoc

pub page_json_of : (p r : Data) (x : List Stored) → page_json p (compact_text r) x ≡ compact_text (page_data p r x)
unfolding page_json serde_json_on_literals
page_json_of p r x = page-parts (codes "{\"format\":\"lc3lab-page-3\",\"processes\":") _ (codes ",\"run\":") _ (codes ",\"stores\":") _ (codes "}")

-- the parts of a page of ends
pub ends-parts : (a q b e c l d x f p r o v w g : List ℕ)
    → (((((((((([] ++ (a ++ q)) ++ (b ++ e)) ++ c) ++ l) ++ (d ++ x)) ++ (f ++ p)) ++ r) ++ o) ++ v) ++ w) ++ g
    ≡ (((((((((((((a ++ q) ++ b) ++ e) ++ c) ++ l) ++ d) ++ x) ++ f) ++ p) ++ r) ++ o) ++ v) ++ w) ++ g
ends-parts a q b e c l d x f p r o v w g = simp append_assoc
