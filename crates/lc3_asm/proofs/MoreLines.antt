-- One more line.
use Rattle.std.proofs.Common.{◌≡◌, ℕ, ◌+◌, ◌≤◌, Bool, true, List, [], ◌∷◌, ◌++◌, map, refl, Some, None, ◌∙◌, ap, arith, append-nil, rules}
use Rattle.std.specs.Prelude.{sum_by, unwrap_or, nat_le, if◌then◌else◌}
use Rattle.std.specs.List.{list_any}
use Rattle.std.proofs.lemmas.List.{map-append}
use Rattle.std.proofs.lemmas.List.Sums.{sum_by-append}
use Rattle.lc3_table.specs.Statements.{Line, Operand, option_or}
use Rattle.lc3_table.specs.declared.operation.Fault.TheVariants as fault
use Rattle.lc3_table.specs.Meaning.{size}
use Rattle.lc3_asm.specs.Addresses.{addresses}
use Rattle.lc3_asm.specs.Texts.{origin, origin_named, is_origin, address_after, with_earlier, labels, entry, label_of}
use Rattle.lc3_asm.proofs.EarlierLemmas.{behind-append, labels-split}
use Rattle.lc3_word.specs.Segment.{first_device}

-- the sizes, with one more line
pub sizes-append : (ls : List (Line Operand)) (l : Line Operand) → sum_by size (ls ++ l ∷ []) ≡ sum_by size ls + size l
sizes-append ls l = sum_by-append size ls (l ∷ []) ∙ omega arith

-- the first `.ORIG` names the origin, whether it stands among the first lines or the others
pub origin-append : (ls ms : List (Line Operand)) → origin (ls ++ ms) ≡ (if list_any is_origin ls then origin ls else origin ms)
origin-append [] ms = refl
origin-append (l ∷ ls) ms = search (rules, (origin-append ls ms))

pub origin-front : (ls ms : List (Line Operand)) → list_any is_origin ls ≡ true → origin (ls ++ ms) ≡ origin ls
origin-front ls ms h = rw h at (origin-append ls ms)

-- the origin, with a line that is no `.ORIG`
pub origin-same : (ls : List (Line Operand)) (l : Line Operand) → origin_named l ≡ None → origin (ls ++ l ∷ []) ≡ origin ls
origin-same [] l h = rw h refl
origin-same (k ∷ ls) l h = ap (unwrap_or (origin_named k)) (origin-same ls l h)

-- the labels, with one more line
pub labels-append : (ls : List (Line Operand)) (l : Line Operand) → labels (ls ++ l ∷ []) ≡ labels ls ++ entry (label_of l) (address_after ls)
labels-append ls l = labels-split ls [] l ∙ ap (λ u. labels ls ++ u) (append-nil (entry (label_of l) (address_after ls)))

pub fits_from_test : (d : Bool) (n : ℕ) → option_or (if d then Some fault.DuplicateLabel else None) (if nat_le n first_device then None else Some fault.TooLong) ≡ None → n ≤ first_device
fits_from_test x n h = search rules

-- the addresses, with one more line
pub addresses-append : (ls : List (Line Operand)) (l : Line Operand) → addresses (ls ++ l ∷ []) ≡ addresses ls ++ address_after ls ∷ []
addresses-append ls l = ap (map (λ (e : List (Line Operand) × Line Operand). address_after e.0)) (behind-append [] ls (l ∷ [])) ∙ map-append _ (with_earlier ls) ((ls, l) ∷ [])
