use Rattle.std.proofs.Common.{◌≡◌, ◌<◌, ℕ, List, map}
use Rattle.std.specs.Prelude.{IfOk, option_to_list}
use Rattle.std.specs.Option.{option_map}
use Rattle.serde_json.specs.Data.{Data}
use Rattle.serde_json.specs.View.{view}
use Rattle.lab_moments.specs.Values.{all_below}
use Rattle.lab_moments.proofs.values.made_below.Given as goal

-- what is made for the numbers so far is added
abbrev pub invariant-loop-i : goal.invariant-loop-i
invariant-loop-i g l =
    (f : ℕ → List Data) → ((i : ℕ) → i < l.count → (r : _) → goal.F-post g l.make i r → IfOk r (λ o. option_to_list (option_map view o) ≡ f i))
    → map view l.values.items ≡ all_below l.i f
