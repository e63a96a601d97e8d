-- What is said of a text, as the protocol has it.
use Rattle.std.specs.Prelude.{◌≡◌, ℕ, ◌-◌, Option, Some, List, [], ◌∷◌, map, codes, string_bytes}
use Rattle.std.specs.Option.{option_and_then}
use Rattle.serde_json.specs.Data.{Data, number, unsigned, string, array}
use Rattle.serde_json.specs.Find.{get}
use Rattle.serde_json.specs.View.{items_of}
use Rattle.lc3_table.specs.declared.profile.Profile.{Profile}
use Rattle.lc3_messages.specs.Told.{AreTold}
use Rattle.lc3_messages.specs.Telling.{finding_told}
use Rattle.lc3_messages.specs.declared.telling.Told.{Told}
use Rattle.lc3_messages.specs.declared.source.What.{What}
use Rattle.lc3_messages.specs.declared.source.What.TheVariants.{Fault, Warning}

-- how bad it is what is found
abbrev pub severity : What → ℕ
severity (Fault f) = 1
severity (Warning w) = 2

-- a member of a member
abbrev pub inner : List ℕ → List ℕ → Data → Option Data
inner object name d = option_and_then (get name) (get object d)

-- the line in which a part of a text has this end
abbrev pub line_in : List ℕ → Data → Option Data
line_in end d = option_and_then (get (codes "line")) (inner (codes "range") end d)

-- a message in its words, with how bad it is, and a part of its line
pub record IsDiagnostic (told : Told) (d : Data) : Type 0 where
  pub message : get (codes "message") d ≡ Some (string (string_bytes told.text))
  pub severity : get (codes "severity") d ≡ Some (number (unsigned (severity told.what)))
  pub start : line_in (codes "start") d ≡ Some (number (unsigned (told.line - 1)))
  pub end : line_in (codes "end") d ≡ Some (number (unsigned (told.line - 1)))

-- messages, each in its turn
abbrev pub AreOf : List Told → List Data → Type 0
AreOf [] ds = ds ≡ []
AreOf (t ∷ ts) ds = (d : Data) × (more : List Data) × IsDiagnostic t d × AreOf ts more × (ds ≡ d ∷ more)

-- the messages of a check of a text on this machine, where warnings of these names are left out
pub record AreDiagnostics (profile : Profile) (names : List (List ℕ)) (text : List ℕ) (d : Data) : Type 0 where
  pub told : List Told
  pub found : AreTold profile names text (map finding_told told)
  pub items : List Data
  pub each : AreOf told items
  pub whole : d ≡ array (items_of items)
