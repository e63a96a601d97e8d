-- Lists of what stands for each number below another.
use Rattle.std.proofs.Common.{◌≡◌, ℕ, ◌+◌, [], List, ◌++◌, map, refl, add-one}
use Rattle.std.proofs.lemmas.Grind.{common_steps}
use Rattle.std.proofs.lemmas.Option.{slice_get-map}
use Rattle.serde_json.specs.Data.{Data}
use Rattle.serde_json.specs.View.{view}
use Rattle.serde_json.specs.declared.value.Value.{Value}
use Rattle.lab_moments.specs.Values.{all_below}

-- values are what stands for each number below n
abbrev pub AreBelow : List Value → ℕ → (ℕ → List Data) → Type 0
AreBelow values n f = map view values ≡ all_below n f

-- at first there is none
pub all_below_none : {X : Type 0} (f : ℕ → List X) → all_below 0 f ≡ []
unfolding all_below
all_below_none f = refl

-- what one number more has
pub all_below_more : {X : Type 0} (f : ℕ → List X) (i : ℕ) → all_below (i + 1) f ≡ all_below i f ++ f i
unfolding all_below
all_below_more f i = rw add-one refl

-- for a loop that adds what stands for each number
pub ruleset below = (all_below_none, all_below_more, common_steps)

-- for an element of a list as it is seen
pub ruleset seen = (slice_get-map)
