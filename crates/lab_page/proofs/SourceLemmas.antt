-- Programs have no floats, and sources where they are kept.
use Rattle.std.proofs.Common.{◌≡◌, ℕ, ◌+◌, ◌≤◌, cond, length, Bool, Option, Some, None, List, [], ◌∷◌, map, slice_get, refl, sym, ap, ◌∙◌}
use Rattle.std.specs.Prelude.{position}
use Rattle.std.specs.List.{position_from}
use Rattle.std.specs.Option.{option_map, option_and_then}
use Rattle.std.proofs.lemmas.Iterator.Adapters.{position_from-zero}
use Rattle.std.proofs.lemmas.Option.{slice_get-map, slice_get_past}
use Rattle.std.specs.Prelude.{String, string_bytes}
use Rattle.std.specs.declared.alloc.Global.{Global}
use Rattle.serde_json.specs.Data.{null}
use Rattle.lab_moments.specs.Values.{or_null}
use Rattle.lab_page.specs.Sources.{Source, row_data, source_data, has_text, source_told, source_behind, name_at, source_at, programs, source_shown, sources_shown}
use Rattle.lab_page.specs.Stores.{source_in}
use Rattle.lab_page.specs.declared.source.Source.{Source as HeldSource}
use Rattle.lab_moments.proofs.PlainLemmas.{IsPlain, plain}

position-map : {X Y : Type 0} (test : Y → Bool) (f : X → Y) (n : ℕ) (xs : List X)
    → position_from test n (map f xs) ≡ position_from (λ x. test (f x)) n xs
position-map test f n [] = refl
position-map test f n (x ∷ xs) = ap (λ (o : Option ℕ). cond (test (f x)) (Some n) o) (position-map test f (n + 1) xs)

-- the first source with a text, by what is kept of the sources
pub first-shown : (text : List ℕ) (ss : List (Option HeldSource))
    → position (has_text text) (sources_shown ss) ≡ position (λ s. has_text text (option_map source_shown s)) ss
first-shown text ss =
    position_from-zero (has_text text) (sources_shown ss) ∙ position-map (has_text text) (option_map source_shown) 0 ss
    ∙ sym (position_from-zero (λ s. has_text text (option_map source_shown s)) ss)

-- a source by that which is kept of it
pub source_at_shown : (ss : List (Option HeldSource)) (p : ℕ)
    → source_at (sources_shown ss) p ≡ or_null (option_map (λ s. source_behind (sources_shown ss) p (source_shown s)) (source_in ss p))
source_at_shown ss p = rw (slice_get-map (option_map source_shown) ss p) (kept (slice_get ss p))
  where
    kept : (o : Option (Option HeldSource))
        → or_null (option_map (source_behind (sources_shown ss) p) (option_and_then (λ s. s) (option_map (option_map source_shown) o)))
        ≡ or_null (option_map (λ s. source_behind (sources_shown ss) p (source_shown s)) (option_and_then (λ s. s) o))
    kept None = refl
    kept (Some None) = refl
    kept (Some (Some s)) = refl

-- no name is given
pub no-name : (names : List (String Global)) (p : ℕ) → length names ≤ p → name_at (map string_bytes names) p ≡ null
no-name names p h = rw (slice_get-map string_bytes names p, slice_get_past names p h) refl

told-plain : (p : ℕ) (s : Source) (o : Option ℕ) → IsPlain (source_told p s o)
unfolding source_data row_data
told-plain p s None = search plain
told-plain p s (Some q) = search plain

pub programs_plain : (count : ℕ) (names : List (List ℕ)) (sources : List (Option Source)) → IsPlain (programs count names sources)
unfolding programs
programs_plain count names sources = search (plain, told-plain)
