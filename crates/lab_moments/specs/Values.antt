-- What the data of a page are made of.
use Rattle.std.specs.Prelude.{ℕ, zero, suc, Option, Some, None, List, [], ◌∷◌, ◌++◌, map}
use Rattle.serde_json.specs.Data.{Data, null, number, unsigned, array}
use Rattle.serde_json.specs.View.{items_of}
use Rattle.lab_sched.specs.declared.schedule.Block.{Block}

-- a list of values
abbrev pub list : List Data → Data
list ds = array (items_of ds)

-- a number
abbrev pub natural : ℕ → Data
natural n = number (unsigned n)

-- numbers
abbrev pub naturals : List ℕ → Data
naturals ns = list (map natural ns)

-- a value, or null where there is none
abbrev pub or_null : Option Data → Data
or_null None = null
or_null (Some d) = d

-- what stands in a list for each number below n, in order
unfoldable pub all_below : {X : Type 0} → ℕ → (ℕ → List X) → List X
all_below zero f = []
all_below (suc n) f = all_below n f ++ f n

-- so many steps of a process in a row
abbrev pub block_data : Block → Data
block_data b = list (natural b.pid ∷ natural b.count ∷ [])
