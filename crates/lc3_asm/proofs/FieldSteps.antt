-- One more operand without its label.
use Rattle.std.proofs.Common.{◌≡◌, ℕ, ◌+◌, ◌<◌, ◌≤◌, min, List, [], ◌∷◌, ◌++◌, length, drop, map, get_or, refl, arith, Option, Result, Ok, inl, inr}
use Rattle.std.proofs.lemmas.List.{drop_more, drop_all}
use Rattle.std.proofs.lemmas.Bool.{cases_lt}
use Rattle.lc3_table.specs.Statements.{◌>>=◌}
use Rattle.lc3_table.specs.Meaning.{resolved_field, resolved_fields}
use Rattle.lc3_table.specs.declared.fields.Field.{Field}
use Rattle.lc3_table.specs.declared.operation.Fault.{Fault}
use Rattle.lc3_table.specs.declared.operation.Form.{Form}
use Rattle.lc3_table.specs.declared.operation.Form.TheVariants as form
use Rattle.lc3_asm.specs.Views.{seen_operand}
use Rattle.lc3_asm.specs.declared.statement.Operand.{Operand as Read}
use Rattle.lc3_asm.proofs.OperandSteps.{with_front}
use Rattle.std.proofs.lemmas.Grind.{common_steps}

front-append : {A : Type 0} (front new : List A) (y : A) (r : Result (List A) Fault) → new ≡ front ++ y ∷ [] → with_front new r ≡ with_front front (r >>= λ ys. Ok (y ∷ ys))
front-append front new y x e = grind (arith, common_steps)

module _ (values : List ℕ → Option ℕ) (address : ℕ) (fs : List Form) (xs : List Read) (i : ℕ) where
  pub resolved-more : (x d : Read) (y : Field) (found new : List Field) → i < length fs → i < length xs → x ≡ get_or xs i d
      → Ok y ≡ resolved_field values address (get_or fs i form.Register) (seen_operand x) → new ≡ found ++ y ∷ []
      → with_front new (resolved_fields values address (drop (i + 1) fs) (map seen_operand (drop (i + 1) xs)))
      ≡ with_front found (resolved_fields values address (drop i fs) (map seen_operand (drop i xs)))
  resolved-more x d y found new h k at e n =
      let here : Ok y ≡ resolved_field values address (get_or fs i form.Register) (seen_operand (get_or xs i d)) = rw at at e in
      rw (drop_more fs i form.Register h, drop_more xs i d k, ← here)
      (front-append found new y (resolved_fields values address (drop (i + 1) fs) (map seen_operand (drop (i + 1) xs))) n)

  no_operand : (gs : List Form) → resolved_fields values address gs [] ≡ Ok []
  no_operand [] = refl
  no_operand (g ∷ gs) = refl

  pub resolved-end : min (length fs) (length xs) ≤ i → resolved_fields values address (drop i fs) (map seen_operand (drop i xs)) ≡ Ok []
  resolved-end h = elim (cases_lt i (length fs)) [
    | inl low ↦ rw (drop_all i xs (omega arith)) (no_operand (drop i fs))
    | inr high ↦ rw (drop_all i fs (omega arith)) refl
  ]
