-- Lines joined, and texts of processes without sources.
use Rattle.std.proofs.Common.{◌≡◌, ℕ, zero, suc, ◌++◌, List, [], ◌∷◌, Option, Some, None, false, is_some, map, refl, sym, ap, ◌∙◌}
use Rattle.std.proofs.lemmas.List.{append-nil}
use Rattle.std.specs.List.{list_any, flat_map, join_with_byte}
use Rattle.std.proofs.lemmas.List.Splits.{join_with_byte-slice_split}
use Rattle.lab_places.specs.Statuses.{StandingSeen}
use Rattle.lab_places.specs.Placed.{SourceSeen, place_part, numbered_of, behind_line, placed_line, placed}

-- the first line, and the others behind line feeds
join_first : (c : ℕ) (f : List ℕ → List ℕ) (x : List ℕ) (xs : List (List ℕ)) → join_with_byte c (map f (x ∷ xs)) ≡ f x ++ flat_map (λ line. c ∷ f line) xs
join_first c f x [] = sym (append-nil (f x))
join_first c f x (y ∷ ys) = ap (λ rest. f x ++ c ∷ rest) (join_first c f y ys)

-- the same of lines that are cut into these
pub joined : (f : List ℕ → List ℕ) (lines : List (List ℕ)) (x : List ℕ) (xs : List (List ℕ)) → lines ≡ x ∷ xs
    → join_with_byte 10 (map f lines) ≡ f x ++ flat_map (λ line. 10 ∷ f line) xs
joined f lines x xs e = ap (λ l. join_with_byte 10 (map f l)) e ∙ join_first 10 f x xs

none-there : (sources : List (Option SourceSeen)) (p : ℕ) → list_any is_some sources ≡ false → numbered_of sources p ≡ None
none-there [] p e = refl
none-there (None ∷ more) zero e = refl
none-there (None ∷ more) (suc p) e = none-there more p e
none-there (Some s ∷ more) p e = cc

nothing-behind : (sources : List (Option SourceSeen)) (standing : Option StandingSeen) → list_any is_some sources ≡ false → behind_line sources standing ≡ []
nothing-behind sources None e = refl
nothing-behind sources (Some s) e = ap (λ source. place_part source s) (none-there sources s.pid e)

line-alone : (sources : List (Option SourceSeen)) (line : List ℕ) → list_any is_some sources ≡ false → placed_line sources line ≡ line
unfolding placed_line
line-alone sources line e = ap (λ more. line ++ more) (nothing-behind sources _ e) ∙ append-nil line

lines-alone : (sources : List (Option SourceSeen)) (lines : List (List ℕ)) → list_any is_some sources ≡ false → map (placed_line sources) lines ≡ lines
lines-alone sources [] e = refl
lines-alone sources (line ∷ lines) e = ap (λ l. l ∷ map (placed_line sources) lines) (line-alone sources line e) ∙ ap (λ ls. line ∷ ls) (lines-alone sources lines e)

-- without sources a text stays as it is
pub text_alone : (sources : List (Option SourceSeen)) (text : List ℕ) → list_any is_some sources ≡ false → placed sources text ≡ text
unfolding placed
text_alone sources text e = ap (join_with_byte 10) (lines-alone sources _ e) ∙ join_with_byte-slice_split 10 text
