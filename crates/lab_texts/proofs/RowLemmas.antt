-- Texts in a row.
use Rattle.std.proofs.Common.{◌≡◌, ℕ, ◌+◌, [], ◌∷◌, List, ◌++◌, Some, flat_map, take, slice_get, refl, ap, sym, ◌∙◌, append_assoc, append-nil, add-one}
use Rattle.std.proofs.lemmas.Option.{slice_get_within, get_or_from_slice_get}
use Rattle.std.proofs.lemmas.List.{flat_map_more, take_more}
use Rattle.lab_texts.specs.Rows.{texts_below}

-- at first there is none
pub texts_below_none : (bytes : List ℕ) (text : ℕ → List ℕ) → bytes ++ texts_below 0 text ≡ bytes
unfolding texts_below
texts_below_none bytes text = append-nil bytes

-- one text more
pub texts_below_next : (i : ℕ) (text : ℕ → List ℕ) → texts_below (i + 1) text ≡ texts_below i text ++ text i
unfolding texts_below
texts_below_next i text = rw add-one refl

-- the same behind others
pub texts_below_more : (bytes : List ℕ) (text : ℕ → List ℕ) (i : ℕ) → (bytes ++ texts_below i text) ++ text i ≡ bytes ++ texts_below (i + 1) text
unfolding texts_below
texts_below_more bytes text i = rw add-one (append_assoc bytes (texts_below i text) (text i))

-- the text of one element more
pub flat_map-next : {X : Type 0} (f : X → List ℕ) (bytes : List ℕ) (xs : List X) (i : ℕ) (x : X) → slice_get xs i ≡ Some x
    → (bytes ++ flat_map f (take i xs)) ++ f x ≡ bytes ++ flat_map f (take (i + 1) xs)
flat_map-next f bytes xs i x at =
    let here = get_or_from_slice_get xs i x x at in
    let cut = take_more xs i x (slice_get_within xs i x at) in
    flat_map_more f bytes (take i xs) x ∙ ap (λ l. bytes ++ flat_map f l) (sym (cut ∙ ap (λ y. take i xs ++ y ∷ []) here))
