-- Where no failure is told, all is so.
use Rattle.std.proofs.Common.{ℕ, ◌≡◌, ◌<◌, ◌&&◌, ◌||◌, Bool, true, false, not, cond, is_some, List, [], ◌∷◌, Option, Some, None, IsTrue, arith, nat_lt, get_or, length, position, refl}
use Rattle.std.specs.List.{list_all, list_any, position_or_len}
use Rattle.std.proofs.lemmas.Bool.Decides.{nat_tests}
use Rattle.std.proofs.lemmas.List.Sums.{AllPass-from_list_all, fails_before_first}
use Rattle.lab_worlds.specs.declared.exploration.Exploration.{Exploration}
use Rattle.lab_worlds.specs.declared.exploration.Lasso.{Lasso}
use Rattle.lab_questions.specs.declared.answers.Answer.{Answer}
use Rattle.lab_questions.specs.declared.answers.Found.{Found}
use Rattle.lab_questions.specs.declared.answers.Found.TheVariants.{Holds, Unknown, FailsAt, Fails}
use Rattle.lab_questions.specs.declared.bases.Basis.{Basis}
use Rattle.lab_questions.specs.declared.failure.Failure.TheVariants.{Endless, Incomplete}
use Rattle.lab_questions.specs.Answered.{fails, is_known}
use Rattle.lab_questions.specs.Asked.{asks_rest, is_of_calls}
use Rattle.lab_questions.specs.Failures.{first_failing, or_else, empty_or_else, failure_of, Passes}

-- where none is the first that passes, none does
none_pass : {X : Type 0} (p : X → Bool) (xs : List X) → position p xs ≡ None → (k : ℕ) (d : X) → k < length xs → p (get_or xs k d) ≡ false
none_pass p xs none k d within = fails_before_first p xs k d (by (nat_lt (position_or_len p xs) (length xs)) refl none)
  where
    by : (b : Bool) → nat_lt (position_or_len p xs) (length xs) ≡ b → cond b (Some (position_or_len p xs)) None ≡ None → k < position_or_len p xs
    by true is h = absurd (cc)
    by false is h = grind (arith, nat_tests)

-- nothing is told at each of its places
parts : (a : Option ℕ) (b : Bool) (c : Option ℕ) (bases : List Basis) (d : Bool)
    → or_else a (cond b (Some Endless) (or_else c (empty_or_else bases (cond d None (Some Incomplete))))) ≡ None
    → (b ≡ false) × (c ≡ None) × (bases ≡ []) × (d ≡ true)
parts (Some k) b c bases d h = absurd (cc)
parts None true c bases d h = absurd (cc)
parts None false (Some k) bases d h = absurd (cc)
parts None false None (x ∷ bases) d h = absurd (cc)
parts None false None [] false h = absurd (cc)
parts None false None [] true h = (refl, refl, refl, refl)

both : (a b : Bool) → (a && b) ≡ true → (a ≡ true) × (b ≡ true)
both true true h = (refl, refl)
both true false h = absurd (cc)
both false b h = absurd (cc)

no_lasso : (r : Option Lasso) (b : Bool) → (is_some r && b) ≡ false → IsTrue b → r ≡ None
no_lasso None b h asks = refl
no_lasso (Some r) true h asks = absurd (cc)
no_lasso (Some r) false h asks = absurd (let no : false ≡ true = asks in cc)

so : (f : Found) (b : Bool) → (fails f && (true || b)) ≡ false → is_known f ≡ true → f ≡ Holds
so Holds b fine known = refl
so Unknown b fine known = absurd (cc)
so (FailsAt i) b fine known = absurd (cc)
so (Fails s) b fine known = absurd (cc)

-- where no failure is told, all is so
pub passes : (e : Exploration) (answers : List Answer) (empty : List Basis) → failure_of e answers empty ≡ None → Passes e answers empty
passes e answers empty none =
    let told = parts (first_failing false answers) (is_some e.lasso && list_any (λ a. asks_rest a.question) answers) (first_failing true answers) empty
    (e.complete && list_all (λ a. is_known a.found) answers) none in
    let whole = both e.complete (list_all (λ a. is_known a.found) answers) told.3 in
    record {
      holds = λ k d within.
          so (get_or answers k d).found (not (is_of_calls (get_or answers k d).question))
          (none_pass (λ a. fails a.found && (true || not (is_of_calls a.question))) answers told.1 k d within)
          (AllPass-from_list_all (λ a. is_known a.found) answers whole.1 k d within);
      rests = no_lasso e.lasso (list_any (λ a. asks_rest a.question) answers) told.0;
      asks = told.2;
      complete = whole.0;
    }

-- what isn't complete has a failure
pub open_fails : (e : Exploration) (answers : List Answer) (empty : List Basis) → e.complete ≡ false → failure_of e answers empty ≡ None → ⊥
open_fails e answers empty incomplete none = let no : e.complete ≡ true = (passes e answers empty none).complete in absurd (cc)
