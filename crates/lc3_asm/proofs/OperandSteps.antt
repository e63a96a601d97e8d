-- Steps of the reading of operands.
use Rattle.std.proofs.Common.{◌≡◌, ℕ, List, [], ◌∷◌, ◌++◌, Some, Option, arith}
use Rattle.std.specs.Prelude.{option_map, Result, Ok}
use Rattle.lc3_table.specs.Statements.{onto, ◌>>=◌}
use Rattle.lc3_table.specs.declared.operation.Fault.{Fault}
use Rattle.std.proofs.lemmas.Grind.{common_steps}

pub onto-append : (front new : List ℕ) (b : ℕ) (o : Option (List ℕ)) → new ≡ front ++ b ∷ [] → option_map (λ cs. new ++ cs) o ≡ option_map (λ cs. front ++ cs) (onto (Some b) o)
onto-append front new b x e = grind (arith, common_steps)

-- these before the others
abbrev pub with_front : {A : Type 0} → List A → Result (List A) Fault → Result (List A) Fault
with_front front r = r >>= λ xs. Ok (front ++ xs)
