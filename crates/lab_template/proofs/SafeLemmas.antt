-- Escaped data.
use Rattle.std.proofs.Common.{◌≡◌, ℕ, ◌==◌, ◌||◌, Bool, true, false, if◌then◌else◌, List, [], ◌∷◌, codes, refl, ap}
use Rattle.std.proofs.lemmas.List.Folds.{list_any-append}
use Rattle.lab_template.specs.Pages.{safe_byte, safe, HasNoTag}

byte-safe : (b : ℕ) → HasNoTag (safe_byte b)
unfolding safe_byte
byte-safe b = by (b == 0x3C) refl
  where
    by : (c : Bool) → (b == 0x3C) ≡ c → HasNoTag (if c then codes "\\u003C" else b ∷ [])
    by true e = refl
    by false e = ap (λ c. c || false) e

-- no `<` stands in them
pub safe_closed : (json : List ℕ) → HasNoTag (safe json)
safe_closed [] = refl
safe_closed (b ∷ bs) = rw (list_any-append, byte-safe b) (safe_closed bs)
