-- Where nothing is complained of, all that is asked is so.
use Rattle.std.proofs.Common.{ℕ, ◌≡◌, ◌∙◌, ◌&&◌, ◌||◌, ◌==◌, not, cond, is_some, Bool, true, false, List, [], ◌∷◌, Option, Some, None, Result, Ok, Err, All, IsTrue, OnOk, arith, get_or, length, refl, subst, sym}
use Rattle.std.proofs.lemmas.Bool.Decides.{nat_tests}
use Rattle.std.specs.List.{list_all, list_any}
use Rattle.lab_sched.specs.Worlds.{WorldState}
use Rattle.lab_worlds.specs.Met.{is_refused}
use Rattle.lab_worlds.specs.declared.exploration.Limits.{Limits}
use Rattle.lab_worlds.specs.declared.random.Walks.{Walks}
use Rattle.lab_questions.specs.Answered.{IsFound as Finds, IsSo, is_known}
use Rattle.lab_questions.specs.Asked.{asks_rest}
use Rattle.lab_questions.specs.Failures.{empty_or_else, first_failing, judges, or_else}
use Rattle.lab_questions.specs.declared.answers.Answer.{Answer}
use Rattle.lab_questions.specs.declared.answers.Answers.{Answers}
use Rattle.lab_questions.specs.declared.bases.Basis.{Basis}
use Rattle.lab_questions.specs.declared.failure.Failure.{Failure}
use Rattle.lab_questions.specs.declared.failure.Failure.TheVariants.{Unmet, Endless, Empty, Incomplete}
use Rattle.lab_commands.specs.Complaints.{is_complained_of, complains}
use Rattle.lab_commands.specs.Found.{AreAnswers, IsSearched, IsFoundBy, IsFound, HoldsAll}
use Rattle.lab_commands.specs.declared.explore.Search.{Search}

passing : (limits : Limits) (start : WorldState) (a : Answers) → IsSearched limits start a → a.failure ≡ None → HoldsAll start a
passing limits start a found none =
    let passes = found.passes none in
    record {
      so = λ k d within.
          let x = get_or a.answers.items k d in
          subst (λ f. Finds start a.waiters.items a.exploration x.question f) (passes.holds k d within) (found.answers.each k d within);
      asks = passes.asks;
      rests = λ asks.
          let no_round = passes.rests asks in
          record {
            bounded = λ unfair. found.round.bounded (found.fair ∙ unfair) passes.complete no_round;
            fairly_bounded = λ is_fair. found.round.fairly_bounded (found.fair ∙ is_fair) passes.complete no_round;
          };
    }

no_count : (refused : Bool) (n : ℕ) → (refused || not (n == 0)) ≡ false → n ≡ 0
no_count true n quiet = absurd (cc)
no_count false n quiet = grind (arith, nat_tests)

empty : (xs : List Answer) → length xs ≡ 0 → xs ≡ []
empty [] none = refl
empty (x ∷ xs) none = absurd (omega arith)

none_asked : (refused : Bool) (xs : List Answer) → (refused || judges xs) ≡ false → xs ≡ []
none_asked refused xs quiet = empty xs (no_count refused (length xs) quiet)

-- what isn't known is told only where conditions ask something, as far as that is known
none_empty : (a : Option ℕ) (b : Bool) (c : Option ℕ) (bases : List Basis) (d : Bool)
    → Some Incomplete ≡ or_else a (cond b (Some Endless) (or_else c (empty_or_else bases (cond d None (Some Incomplete))))) → bases ≡ []
none_empty (Some k) b c bases d h = absurd (cc)
none_empty None true c bases d h = absurd (cc)
none_empty None false (Some k) bases d h = absurd (cc)
none_empty None false None (x ∷ bases) d h = absurd (cc)
none_empty None false None [] d h = refl

asked : (walks : Bool) (start : WorldState) (a : Answers) → AreAnswers walks start a → a.failure ≡ Some Incomplete → a.empty.items ≡ []
asked walks start a found is =
    none_empty (first_failing false a.answers.items) (is_some a.exploration.lasso && list_any (λ x. asks_rest x.question) a.answers.items) (first_failing true a.answers.items)
    a.empty.items (a.exploration.complete && list_all (λ x. is_known x.found) a.answers.items) (sym is ∙ found.failure)

unasked : (start : WorldState) (a : Answers) (refused : Bool) → a.empty.items ≡ [] → (refused || judges a.answers.items) ≡ false → HoldsAll start a
unasked start a refused asks quiet =
    let none : a.answers.items ≡ [] = none_asked refused a.answers.items quiet in
    record {
      so = subst (All (λ x. IsSo start a.waiters.items x.question)) (sym none) (λ k d within. absurd (omega (arith, within)));
      asks = asks;
      rests = λ some. absurd (let no : false ≡ true = subst (λ xs. IsTrue (list_any (λ x. asks_rest x.question) xs)) none some in cc);
    }

holds_all : (s : Search) → complains s ≡ false → (start : WorldState) → IsFound start s → HoldsAll start s.answers
holds_all s quiet start found = by s.answers.failure refl s.inquiry.reach.walks found
  where
    by : (f : Option Failure) → s.answers.failure ≡ f → (w : Option Walks) → IsFoundBy w s.inquiry.reach.limits start s.answers → HoldsAll start s.answers
    by None is None found = passing s.inquiry.reach.limits start s.answers found is
    by None is (Some walks) found = absurd (found.fails is)
    by (Some Incomplete) is None found = unasked start s.answers (is_refused s.answers.exploration) (asked false start s.answers found.answers is) (subst (λ f. is_complained_of s f ≡ false) is quiet)
    by (Some Incomplete) is (Some walks) found = unasked start s.answers (is_refused s.answers.exploration) (asked true start s.answers found.answers is) (subst (λ f. is_complained_of s f ≡ false) is quiet)
    by (Some (Unmet k)) is w found = let no : true ≡ false = subst (λ f. is_complained_of s f ≡ false) is quiet in absurd (cc)
    by (Some Empty) is w found = let no : true ≡ false = subst (λ f. is_complained_of s f ≡ false) is quiet in absurd (cc)
    by (Some Endless) is w found = let no : true ≡ false = subst (λ f. is_complained_of s f ≡ false) is quiet in absurd (cc)

-- the same of what is given back
pub told_holds : {T E : Type 0} (s : Search) (r : Result T E) → OnOk r (complains s ≡ false) → OnOk r ((start : WorldState) → IsFound start s → HoldsAll start s.answers)
told_holds s (Ok done) quiet = holds_all s quiet
told_holds s (Err fault) quiet = tt
