-- The values of labels.
use Rattle.std.proofs.Common.{◌≡◌, ℕ, ◌≤◌, false, List, [], ◌∷◌, ◌++◌, refl, ap, sym, subst, ◌∙◌, Some, None, rules}
use Rattle.std.specs.Prelude.{bytes_eq, All, IfSome}
use Rattle.std.specs.List.{flat_map}
use Rattle.std.proofs.lemmas.List.Elements.{All-nil, All-cons}
use Rattle.std.proofs.lemmas.Map.Entries.{All-lookup}
use Rattle.lc3_table.specs.Statements.{Line, Operand}
use Rattle.lc3_table.specs.declared.operation.Fault.TheVariants as fault
use Rattle.lc3_asm.specs.Texts.{value, lines_behind, label_at, labels, label_of, address_after, is_duplicate}
use Rattle.lc3_asm.specs.Laws.{LabelsAreLineAddresses}
use Rattle.lc3_asm.proofs.Outcomes.{first_false}
use Rattle.lc3_asm.proofs.EarlierLemmas.{labels-split}
use Rattle.lc3_asm.proofs.ReadLemmas.{AreRead, meant, lines-read, read-at, read-below}
use Rattle.lc3_word.specs.Segment.{first_device}

-- a label that the first of two lists lacks
value-skip : (xs ys : List (List ℕ × ℕ)) (name : List ℕ) → value xs name ≡ None → value (xs ++ ys) name ≡ value ys name
value-skip [] ys name e = refl
value-skip (x ∷ xs) ys name e = search (rules, (value-skip xs ys name))

-- the value of a label that no line before its own defines
label-value : (before after : List (Line Operand)) (l : Line Operand) (name : List ℕ) → is_duplicate before (label_of l) ≡ false → label_of l ≡ Some name
    → value (labels (before ++ l ∷ after)) name ≡ Some (address_after before)
label-value before after l name new has = search (rules, labels-split, value-skip)

pub label_is_line_address : LabelsAreLineAddresses
label_is_line_address text p before l name accepted has named =
    let means = meant text p (before ++ l ∷ has.0) accepted has.1 in
    let read = read-at [] before l has.0 (lines-read text (before ++ l ∷ has.0) has.1) in
    let new = first_false (is_duplicate before (label_of l)) fault.DuplicateLabel _ read.placed in
    ap (λ q. value q.symbols name) (sym means.laid) ∙ label-value before has.0 l name new named

-- the value of a label is an address below the device registers, or their first
abbrev IsSmall : List ℕ × ℕ → Type 0
IsSmall e = e.1 ≤ first_device

labels-small : (front ls : List (Line Operand)) → AreRead front ls → address_after front ≤ first_device → All IsSmall (flat_map label_at (lines_behind front ls))
labels-small front [] r small = All-nil IsSmall
labels-small front (l ∷ ls) r small = search (rules, All-nil, All-cons, (labels-small (front ++ l ∷ []) ls r.1 (read-below front l r.0)))

pub labels-below : (ls : List (Line Operand)) (name : List ℕ) (target : ℕ) → AreRead [] ls → address_after [] ≤ first_device → value (labels ls) name ≡ Some target → target ≤ first_device
labels-below ls name target r small e = subst (λ o. IfSome o (λ a. a ≤ first_device)) e (All-lookup (λ a. a ≤ first_device) (bytes_eq name) (labels ls) (labels-small [] ls r small))
