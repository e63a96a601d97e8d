-- Without a value nothing is required.
use Rattle.std.proofs.Common.{ℕ, ◌≡◌, Bool, true, false, List, [], ◌∷◌, Option, Some, None, ap, refl, subst, arith, slice_get}
use Rattle.std.specs.Prelude.{unwrap_or}
use Rattle.std.specs.Option.{option_map, option_and_then}
use Rattle.std.specs.Borrow.{Bor}
use Rattle.clap.specs.declared.parser.matches.MatchedArg.{MatchedArg}
use Rattle.clap.specs.declared.parser.matches.Found.{Found}
use Rattle.clap.specs.Words.{first_value, matched_of, raw_values}
use Rattle.lab_arguments.specs.declared.requirements.Requirements.{Requirements}
use Rattle.lab_arguments.specs.declared.requirements.Rest.{Rest}
use Rattle.lab_arguments.specs.declared.requirements.Rest.TheVariants.{Ended, Stuck, Halted}
use Rattle.lab_arguments.specs.Private.Options.{values_in}
use Rattle.lab_arguments.specs.Private.Requirements.{rest_counts, once_if, AreRequired, nothing}

none_of : (a : MatchedArg) (vs : List (Bor (List ℕ))) → a.vals.items ≡ vs → option_map (λ s. s.now) (slice_get a.vals.items 0) ≡ None → raw_values a ≡ []
none_of a [] is none = rw is refl
none_of a (v ∷ vs) is none =
    let some : option_map (λ (s : Bor (List ℕ)). s.now) (slice_get (v ∷ vs) 0) ≡ None =
    subst (λ xs. option_map (λ (s : Bor (List ℕ)). s.now) (slice_get xs 0) ≡ None) is none in
    absurd (cc)

none_matched : (o : Option MatchedArg) → option_and_then (λ a. option_map (λ s. s.now) (slice_get a.vals.items 0)) o ≡ None → unwrap_or (option_map raw_values o) [] ≡ []
none_matched None none = refl
none_matched (Some a) none = none_of a a.vals.items refl none

pub no_values : (found : Found) (name : List ℕ) → first_value found name ≡ None → values_in found name ≡ []
no_values found name none = none_matched (matched_of found name) none

no_rest : (o : Option Rest) → ◌≡◌ {A = ℕ × ℕ × ℕ} (0, 0, 0) (rest_counts o) → o ≡ None
no_rest None e = refl
no_rest (Some Ended) e = let one : ◌≡◌ {A = ℕ} 0 1 = ap (λ (p : ℕ × ℕ × ℕ). p.0) e in absurd (omega arith)
no_rest (Some Stuck) e = let one : ◌≡◌ {A = ℕ} 0 1 = ap (λ (p : ℕ × ℕ × ℕ). p.1) e in absurd (omega arith)
no_rest (Some Halted) e = let one : ◌≡◌ {A = ℕ} 0 1 = ap (λ (p : ℕ × ℕ × ℕ). p.2) e in absurd (omega arith)

not_once : (b : Bool) → 0 ≡ once_if b → b ≡ false
not_once true e = absurd (omega (arith, e))
not_once false e = refl

pub nothing_required : (r : Requirements) → AreRequired [] r → r ≡ nothing
nothing_required r a = alike r.rest r.empty r.same (no_rest r.rest a.rest) (not_once r.empty a.empty) (not_once r.same a.same)
  where
    alike : (o : Option Rest) (e s : Bool) → o ≡ None → e ≡ false → s ≡ false → ◌≡◌ {A = Requirements} (record { rest = o; empty = e; same = s }) nothing
    alike o e s no_way not_empty not_same = rw (no_way, not_empty, not_same) refl
