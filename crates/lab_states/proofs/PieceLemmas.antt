-- Outputs that are made of pieces.
use Rattle.std.proofs.Common.{◌≡◌, ◌+◌, ◌<◌, ◌≤◌, ℕ, zero, suc, List, [], ◌∷◌, ◌++◌, ◌⊎◌, inl, inr, Some, None, refl, sym, ap, subst, ◌∙◌, arith, append_assoc, drop, get_or, length, slice_get, take}
use Rattle.std.proofs.lemmas.List.{append-nil, drop-take, get_or_default, get_or_past, get_or_append_left, get_or_at, length_push, take-append-drop, take-take}
use Rattle.std.proofs.lemmas.Option.{slice_get_read, slice_get_within, get_or_from_slice_get}
use Rattle.lab_states.specs.declared.outputs.Piece.{Piece}
use Rattle.lab_states.specs.Private.Outputs.{with_piece, with_pieces, outputs_of, AreChained, Extends, joined}
use Rattle.lab_worlds.proofs.Pushes.{get_pushed}

-- the bytes of the output that ends in a piece
abbrev pub behind : List (List ℕ) → Piece → List ℕ
behind os p = get_or os p.before [] ++ p.bytes

-- no piece
pub no_pieces : outputs_of [] ≡ [] ∷ []
unfolding outputs_of
no_pieces = refl

-- one piece more
with_more : (os : List (List ℕ)) (ps : List Piece) (p : Piece) → with_pieces os (ps ++ p ∷ []) ≡ with_piece (with_pieces os ps) p
with_more os [] p = refl
with_more os (q ∷ ps) p = with_more (with_piece os q) ps p

pub outputs_more : (ps : List Piece) (p : Piece) → outputs_of (ps ++ p ∷ []) ≡ outputs_of ps ++ behind (outputs_of ps) p ∷ []
unfolding outputs_of
outputs_more ps p = with_more ([] ∷ []) ps p

-- more pieces make the same outputs, and more
with_extends : (os : List (List ℕ)) (ps : List Piece) → Extends os (with_pieces os ps)
with_extends os [] = ([], sym (append-nil os))
with_extends os (p ∷ ps) =
    let rest = with_extends (with_piece os p) ps in
    (behind os p ∷ rest.0, rest.1 ∙ append_assoc os (behind os p ∷ []) rest.0)

pub outputs_start : (ps : List Piece) → Extends ([] ∷ []) (outputs_of ps)
unfolding outputs_of
outputs_start ps = with_extends ([] ∷ []) ps

with_length : (os : List (List ℕ)) (ps : List Piece) → length (with_pieces os ps) ≡ length os + length ps
with_length os [] = omega arith
with_length os (p ∷ ps) =
    let rest = with_length (with_piece os p) ps in
    let more = length_push os (behind os p) in
    omega (arith, rest, more)

pub outputs_length : (ps : List Piece) → length (outputs_of ps) ≡ length ps + 1
unfolding outputs_of
outputs_length ps = let n = with_length ([] ∷ []) ps in omega (arith, n)

-- what stands in a place stands there among more
pub extended : (os qs : List (List ℕ)) (n : ℕ) → Extends os qs → n < length os → get_or qs n [] ≡ get_or os n []
extended os qs n e within = ap (λ xs. get_or xs n []) e.1 ∙ get_or_append_left os e.0 [] n within

-- the output that ends in the piece at a place
with_at : (os : List (List ℕ)) (ps : List Piece) (k : ℕ) (p : Piece) → slice_get ps k ≡ Some p → p.before < length os + k
    → get_or (with_pieces os ps) (length os + k) [] ≡ get_or (with_pieces os ps) p.before [] ++ p.bytes
with_at os [] k p at within = let none : None ≡ Some p = at in absurd (cc)
with_at os (q ∷ ps) zero p at within =
    let some : Some q ≡ Some p = at in
    let same : q ≡ p = cc in
    let below : p.before < length os = omega (arith, within) in
    let e = with_extends (with_piece os q) ps in
    let all = with_pieces (with_piece os q) ps in
    let more = length_push os (behind os q) in
    let first : get_or all (length os + 0) [] ≡ get_or (with_piece os q) (length os + 0) [] = extended (with_piece os q) all (length os + 0) e (omega (arith, more)) in
    let there : get_or (with_piece os q) (length os + 0) [] ≡ behind os q = get_or_at os (behind os q) [] [] (length os + 0) (omega arith) in
    let before : get_or all p.before [] ≡ get_or os p.before [] =
    extended (with_piece os q) all p.before e (omega (arith, more, below)) ∙ get_or_append_left os (behind os q ∷ []) [] p.before below in
    first ∙ there ∙ ap (behind os) same ∙ ap (λ bs. bs ++ p.bytes) (sym before)
with_at os (q ∷ ps) (suc k) p at within =
    let more = length_push os (behind os q) in
    let place : length (with_piece os q) + k ≡ length os + suc k = omega (arith, more) in
    let rest = with_at (with_piece os q) ps k p at (subst (λ n. p.before < n) (sym place) within) in
    subst (λ n. get_or (with_pieces (with_piece os q) ps) n [] ≡ get_or (with_pieces (with_piece os q) ps) p.before [] ++ p.bytes) place rest

pub output_at : (ps : List Piece) (k : ℕ) (p : Piece) → AreChained ps → slice_get ps k ≡ Some p → get_or (outputs_of ps) (k + 1) [] ≡ behind (outputs_of ps) p
unfolding outputs_of
output_at ps k p chained at =
    let before = chained k p at in
    let place : 1 + k ≡ k + 1 = omega arith in
    subst (λ n. get_or (with_pieces ([] ∷ []) ps) n [] ≡ behind (with_pieces ([] ∷ []) ps) p) place (with_at ([] ∷ []) ps k p at (omega (arith, before)))

-- what is read within a list stands there
pub stands : (os : List (List ℕ)) (n : ℕ) (bs : List ℕ) → n < length os → get_or os n [] ≡ bs → slice_get os n ≡ Some bs
stands os n bs within same = slice_get_read os (length os) n bs refl within (sym same ∙ get_or_default os n [] bs within)

at_push : {A : Type 0} (xs : List A) (x : A) (k : ℕ) (y : A) → slice_get (xs ++ x ∷ []) k ≡ Some y → (slice_get xs k ≡ Some y) ⊎ ((k ≡ length xs) × (x ≡ y))
at_push [] x zero y at = let some : Some x ≡ Some y = at in inr (refl, (cc))
at_push [] x (suc k) y at = let none : None ≡ Some y = at in absurd (cc)
at_push (z ∷ zs) x zero y at = inl at
at_push (z ∷ zs) x (suc k) y at = elim (at_push zs x k y at) [ inl h ↦ inl h | inr h ↦ inr (ap suc h.0, h.1) ]

-- one piece more, which stands behind an output that is there
pub chained_more : (ps : List Piece) (p : Piece) → AreChained ps → p.before ≤ length ps → AreChained (ps ++ p ∷ [])
chained_more ps p chained before k q at = elim (at_push ps p k q at) [
  | inl h ↦ chained k q h
  | inr h ↦ subst (λ x. x.before ≤ k) h.1 (subst (λ n. p.before ≤ n) (sym h.0) before)
]

-- an earlier piece
pub joined_more : (ps : List Piece) (p : Piece) → joined (ps ++ p ∷ []) ≡ p.bytes ++ joined ps
joined_more [] p = sym (append-nil p.bytes)
joined_more (q ∷ ps) p = ap (λ bs. bs ++ q.bytes) (joined_more ps p) ∙ append_assoc p.bytes (joined ps) q.bytes

-- what a piece that is added adds
pub added : (ps qs : List Piece) (p : Piece) (os : List (List ℕ)) (n : ℕ) → outputs_of ps ≡ os → qs ≡ ps ++ p ∷ [] → n ≡ length qs → slice_get (outputs_of qs) n ≡ Some (behind os p)
added ps qs p os n view pushed count =
    let all : outputs_of qs ≡ os ++ behind os p ∷ [] = ap outputs_of pushed ∙ outputs_more ps p ∙ ap (λ xs. xs ++ behind xs p ∷ []) view in
    let long = outputs_length ps in
    let same = ap (λ xs. length xs) view in
    let more = length_push ps p in
    let few = ap (λ xs. length xs) pushed in
    let place : n ≡ length os = omega (arith, count, long, same, more, few) in
    ap (λ xs. slice_get xs n) all ∙ ap (λ k. slice_get (os ++ behind os p ∷ []) k) place ∙ get_pushed os (behind os p)

pub added_extends : (ps qs : List Piece) (p : Piece) (os : List (List ℕ)) → outputs_of ps ≡ os → qs ≡ ps ++ p ∷ [] → Extends os (outputs_of qs)
added_extends ps qs p os view pushed = (behind os p ∷ [], ap outputs_of pushed ∙ outputs_more ps p ∙ ap (λ xs. xs ++ behind xs p ∷ []) view)

pub added_chained : (ps qs : List Piece) (p : Piece) (os : List (List ℕ)) → outputs_of ps ≡ os → qs ≡ ps ++ p ∷ [] → AreChained ps → p.before < length os → AreChained qs
added_chained ps qs p os view pushed chained before =
    let long = outputs_length ps in
    let same = ap (λ xs. length xs) view in
    subst AreChained (sym pushed) (chained_more ps p chained (omega (arith, before, long, same)))

-- the output that ends in a piece that is kept
pub ends_at : (ps : List Piece) (os : List (List ℕ)) (n k : ℕ) (p q : Piece) → AreChained ps → outputs_of ps ≡ os → slice_get ps k ≡ Some p → p ≡ q → n ≡ k + 1 → slice_get os n ≡ Some (behind os q)
ends_at ps os n k p q chained view at same place =
    let long = outputs_length ps in
    let count = ap (λ xs. length xs) view in
    let below = slice_get_within ps k p at in
    let within : n < length os = omega (arith, long, count, below, place) in
    let here : get_or os n [] ≡ behind os q =
    ap (λ m. get_or os m []) place ∙ ap (λ xs. get_or xs (k + 1) []) (sym view) ∙ output_at ps k p chained at ∙ ap (λ xs. behind xs p) view ∙ ap (behind os) same in
    stands os n (behind os q) within here

-- a part of a list, and what stands behind it
pub take_parts : (out : List ℕ) (at n m : ℕ) (bs : List ℕ) → m ≡ n → bs ≡ take m (drop at out) → take (at + n) out ≡ take at out ++ bs
take_parts out at n m bs is same =
    sym (ap (λ xs. take at out ++ xs) (same ∙ ap (λ k. take k (drop at out)) is ∙ sym (drop-take at n out)) ∙ ap (λ xs. xs ++ drop at (take (at + n) out)) (sym (take-take at (at + n) out (omega arith)))
    ∙ take-append-drop at (take (at + n) out))

-- one piece more of an output that is kept
pub part_kept : (os qs : List (List ℕ)) (n m before : ℕ) (front bytes more : List ℕ) → slice_get os n ≡ Some front → before ≡ n → more ≡ front ++ bytes → slice_get qs m ≡ Some (get_or os before [] ++ bytes)
    → slice_get qs m ≡ Some more
part_kept os qs n m before front bytes more kept is parts added =
    let front_is : get_or os before [] ≡ front = ap (λ k. get_or os k []) is ∙ get_or_from_slice_get os n front [] kept in
    added ∙ ap (λ bs. Some (bs ++ bytes)) front_is ∙ ap (λ bs. Some bs) (sym parts)

pub no_more : (os : List (List ℕ)) → Extends os os
no_more os = ([], sym (append-nil os))

-- what stands in a place, with nothing of another behind it
pub none_kept : (os : List (List ℕ)) (n : ℕ) (out : List ℕ) → n < length os → slice_get os n ≡ Some (get_or os n [] ++ take 0 out)
none_kept os n out within = stands os n (get_or os n [] ++ take 0 out) within (sym (append-nil (get_or os n [])))

pub extends_more : (os ps qs : List (List ℕ)) → Extends os ps → Extends ps qs → Extends os qs
extends_more os ps qs e f = (e.0 ++ f.0, f.1 ∙ ap (λ xs. xs ++ f.0) e.1 ∙ append_assoc os e.0 f.0)

-- a walk from an output back to the empty one: one piece more
pub path_more : (ps : List Piece) (at k : ℕ) (path more : List Piece) (p : Piece) (whole : List ℕ) → AreChained ps → slice_get ps k ≡ Some p → at ≡ k + 1 → get_or (outputs_of ps) at [] ++ joined path ≡ whole
    → more ≡ path ++ p ∷ [] → get_or (outputs_of ps) p.before [] ++ joined more ≡ whole
path_more ps at k path more p whole chained there place so pushed =
    let os = outputs_of ps in
    let front = get_or os p.before [] in
    ap (λ xs. front ++ joined xs) pushed ∙ ap (λ bs. front ++ bs) (joined_more path p) ∙ sym (append_assoc front p.bytes (joined path))
    ∙ ap (λ bs. bs ++ joined path) (sym (ap (λ n. get_or os n []) place ∙ output_at ps k p chained there)) ∙ so

-- where it ends
pub path_end : (ps : List Piece) → get_or (outputs_of ps) 0 [] ≡ []
path_end ps = let e = outputs_start ps in ap (λ xs. get_or xs 0 []) e.1

pub path_past : (ps : List Piece) (at : ℕ) → length ps < at → get_or (outputs_of ps) at [] ≡ []
path_past ps at past = let n = outputs_length ps in get_or_past (outputs_of ps) at [] (omega (arith, n, past))

-- the first piece of a path, which is taken from its end
pub joined_less : (path less : List Piece) (p : Piece) (bytes more whole : List ℕ) → path ≡ less ++ p ∷ [] → bytes ++ joined path ≡ whole → more ≡ bytes ++ p.bytes → more ++ joined less ≡ whole
joined_less path less p bytes more whole taken so pushed =
    ap (λ bs. bs ++ joined less) pushed ∙ append_assoc bytes p.bytes (joined less) ∙ ap (λ bs. bytes ++ bs) (sym (ap joined taken ∙ joined_more less p)) ∙ so
