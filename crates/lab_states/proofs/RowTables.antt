-- Rows of one width, one behind the other.
use Rattle.std.proofs.Common.{ℕ, zero, suc, ◌≡◌, ◌+◌, ◌-◌, ◌*◌, ◌<◌, ◌≤◌, List, [], ◌∷◌, ◌++◌, Some, refl, sym, ap, ◌∙◌, arith, length, take, drop, set, length-set, slice_get}
use Rattle.std.proofs.lemmas.List.{nil_from_length, take_all, take-append-le, drop-append-le, drop-drop, length-drop, length-take-le, set-append_right}
use Rattle.lab_states.specs.Rows.{Row, row_of, rows_of}

-- a row ends among the numbers of all
pub row_within : (w n i : ℕ) → i < n → i * w + w ≤ n * w
row_within w zero i below = absurd (omega (arith, below))
row_within w (suc n) zero below = omega arith
row_within w (suc n) (suc i) below = let rest = row_within w n i (omega (arith, below)) in omega (arith, rest)

pub rows_count : (w n : ℕ) (ns : List ℕ) → length (rows_of w n ns) ≡ n
rows_count w zero ns = refl
rows_count w (suc n) ns = ap suc (rows_count w n (drop w ns))

row_read : (w n : ℕ) (ns : List ℕ) (i : ℕ) → i < n → slice_get (rows_of w n ns) i ≡ Some (row_of (take w (drop (i * w) ns)))
row_read w zero ns i below = absurd (omega (arith, below))
row_read w (suc n) ns zero below =
    let none : 0 ≡ zero * w = omega arith in
    ap (λ k. Some (row_of (take w (drop k ns)))) none
row_read w (suc n) ns (suc i) below =
    let more : w + i * w ≡ suc i * w = omega arith in
    row_read w n (drop w ns) i (omega (arith, below)) ∙ ap (λ xs. Some (row_of (take w xs))) (drop-drop (i * w) w ns) ∙ ap (λ k. Some (row_of (take w (drop k ns)))) more

-- the row at a place, by the part of the numbers that was read
pub row_part : (w n : ℕ) (ns ms : List ℕ) (i : ℕ) → i < n → ms ≡ ns → slice_get (rows_of w n ns) i ≡ Some (row_of (take (i * w + w - i * w) (drop (i * w) ms)))
row_part w n ns ms i below same =
    let one : w ≡ i * w + w - i * w = omega arith in
    row_read w n ns i below ∙ ap (λ k. Some (row_of (take k (drop (i * w) ns)))) one ∙ ap (λ xs. Some (row_of (take (i * w + w - i * w) (drop (i * w) xs)))) (sym same)

pub row_added : (w n : ℕ) (ns ms : List ℕ) → length ns ≡ n * w → length ms ≡ w → rows_of w (suc n) (ns ++ ms) ≡ rows_of w n ns ++ row_of ms ∷ []
row_added w zero ns ms all one =
    let none = nil_from_length ns (omega (arith, all)) in
    ap (λ xs. row_of (take w (xs ++ ms)) ∷ []) none ∙ ap (λ xs. row_of xs ∷ []) (take_all w ms (omega (arith, one)))
row_added w (suc n) ns ms all one =
    let few : w ≤ length ns = omega (arith, all) in
    let rest = row_added w n (drop w ns) ms (let cut = length-drop w ns in omega (arith, cut, all)) one in
    ap (λ xs. row_of xs ∷ rows_of w (suc n) (drop w (ns ++ ms))) (take-append-le w ns ms few)
    ∙ ap (λ xs. row_of (take w ns) ∷ rows_of w (suc n) xs) (drop-append-le w ns ms few) ∙ ap (λ rs. row_of (take w ns) ∷ rs) rest

-- one row more, by how the numbers and their count were changed
pub rows_pushed_of : (w n m : ℕ) (ns ms all : List ℕ) → all ≡ ns ++ ms → m ≡ suc n → length ns ≡ n * w → length ms ≡ w → rows_of w m all ≡ rows_of w n ns ++ row_of ms ∷ []
rows_pushed_of w n m ns ms all more next whole one = ap (λ xs. rows_of w m xs) more ∙ ap (λ k. rows_of w k (ns ++ ms)) next ∙ row_added w n ns ms whole one

-- a row with another first number and another one behind it
changed_row : (part : List ℕ) (w kernel p state : ℕ) → length part ≡ w → p + 1 < w → row_of (set (set part 0 kernel) (suc p) state) ≡ record { kernel = kernel; states = set (row_of part).states p state }
changed_row [] w kernel p state all few = absurd (omega (arith, all, few))
changed_row (x ∷ xs) w kernel p state all few = refl

-- the numbers of a row once more behind all, with two of them changed
pub row_pushed_after : (w n m at kernel p state first : ℕ) (ns part more ends all : List ℕ) → length ns ≡ n * w → first ≡ length ns → at < n → m ≡ suc n → p + 1 < w → part ≡ take (at * w + w - at * w) (drop (at * w) ns)
    → more ≡ ns ++ part → ends ≡ set more first kernel → all ≡ set ends (first + 1 + p) state
    → (r : Row) × (slice_get (rows_of w n ns) at ≡ Some r) × (rows_of w m all ≡ rows_of w n ns ++ record { kernel = kernel; states = set r.states p state } ∷ [])
row_pushed_after w n m at kernel p state last ns part more ends all whole is-last below next few is-part is-more is-ends is-all =
    let inside = row_within w n at below in
    let long : length part ≡ w = ap length is-part ∙ length-take-le (at * w + w - at * w) (drop (at * w) ns) (let cut = length-drop (at * w) ns in omega (arith, cut, inside, whole)) ∙ (let one : at * w + w - at * w ≡ w = omega arith in one) in
    let first = set (part) 0 kernel in
    let changed = set first (suc p) state in
    let here : length ns - length ns ≡ 0 = omega arith in
    let there : length ns + 1 + p - length ns ≡ suc p = omega arith in
    let one : ends ≡ ns ++ first = is-ends ∙ ap (λ k. set more k kernel) is-last ∙ ap (λ xs. set xs (length ns) kernel) is-more ∙ set-append_right ns part (length ns) (length ns) kernel refl (omega arith) ∙ ap (λ k. ns ++ set part k kernel) here in
    let two : all ≡ ns ++ changed = is-all ∙ ap (λ k. set ends (k + 1 + p) state) is-last ∙ ap (λ xs. set xs (length ns + 1 + p) state) one ∙ set-append_right ns first (length ns) (length ns + 1 + p) state refl (omega arith) ∙ ap (λ k. ns ++ set first k state) there in
    let wide : length changed ≡ w = length-set first (suc p) state ∙ length-set part 0 kernel ∙ long in (
      row_of part,
      row_part w n ns ns at below refl ∙ ap (λ xs. Some (row_of xs)) (sym is-part),
      rows_pushed_of w n m ns changed all two next whole wide ∙ ap (λ r. rows_of w n ns ++ r ∷ []) (changed_row part w kernel p state long few),
    )
