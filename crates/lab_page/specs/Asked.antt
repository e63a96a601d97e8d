-- What was asked of an exploration, as a page holds it.
use Rattle.std.specs.Prelude.{List, [], ◌∷◌, ◌++◌, ℕ, map, codes, string_bytes}
use Rattle.serde_json.specs.Data.{Data, string}
use Rattle.lab_moments.specs.Values.{list, natural}
use Rattle.lab_page.specs.declared.ends.Answered.{Answered}
use Rattle.lab_page.specs.declared.ends.Answered.TheVariants.{Met, NotMet, Unknown, Empty}
use Rattle.lab_page.specs.declared.ends.Asked.{Asked}
use Rattle.lab_page.specs.declared.ends.ShownRun.{ShownRun}
use Rattle.lab_page.specs.declared.ends.ShownRun.TheVariants.{End, Other}

-- an answer in words
abbrev pub answer_text : Answered → List ℕ
answer_text Met = codes "met"
answer_text NotMet = codes "not met"
answer_text Unknown = codes "not known"
answer_text (Empty why) = codes "empty: " ++ string_bytes why

-- a run on the page, by its number from 0: that to an end, or one beside those
abbrev pub shown_data : ShownRun → Data
shown_data (End n) = list (string (codes "end") ∷ natural n ∷ [])
shown_data (Other n) = list (string (codes "run") ∷ natural n ∷ [])

-- something that was asked: the words that ask it, the answer, and the runs that show it
unfoldable pub asked_data : Asked → Data
asked_data a =
    list (string (string_bytes a.text) ∷ string (answer_text a.answer) ∷ list (map shown_data a.runs.items) ∷ [])

-- all that was asked
abbrev pub asked_list : List Asked → Data
asked_list all = list (map asked_data all)
