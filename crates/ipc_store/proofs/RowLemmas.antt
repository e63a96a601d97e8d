-- Rows that stand one behind another among numbers.
use Rattle.std.proofs.Common.{◌≡◌, ℕ, ◌+◌, ◌≤◌, ◌⊎◌, inl, inr, List, [], ◌∷◌, ◌++◌, length, map, take, drop, slice_get, Some, refl, arith, zero, suc}
use Rattle.std.proofs.lemmas.List.{append_assoc, length-append, length-drop, drop_at, take_at, take_all, drop-append-le, take-append-le, map-append}
use Rattle.ipc_store.specs.declared.kept.rows.Span.{Span}
use Rattle.ipc_store.specs.Private.KeptRows.{row, row_of, AreWithin}
use Rattle.std.proofs.lemmas.Grind.{common_steps}

abbrev pub span : ℕ → ℕ → ℕ → Span
span start objects tables = record { start = start; objects = objects; tables = tables }

-- with one thing more behind it, a list has what it had
pub grown_has : {X : Type 0} (xs : List X) (x : X) (i : ℕ) (y : X) → slice_get xs i ≡ Some y → slice_get (xs ++ x ∷ []) i ≡ Some y
grown_has [] x i y e = cc
grown_has (z ∷ xs) x zero y e = e
grown_has (z ∷ xs) x (suc i) y e = grown_has xs x i y e

-- and that thing
pub grown_last : {X : Type 0} (xs : List X) (x : X) → slice_get (xs ++ x ∷ []) (length xs) ≡ Some x
grown_last [] x = refl
grown_last (z ∷ xs) x = grown_last xs x

-- and nothing else
pub grown_only : {X : Type 0} (xs : List X) (x : X) (i : ℕ) (y : X) → slice_get (xs ++ x ∷ []) i ≡ Some y → (slice_get xs i ≡ Some y) ⊎ (y ≡ x)
grown_only [] x zero y e = inr (cc)
grown_only [] x (suc i) y e = cc
grown_only (z ∷ xs) x zero y e = inl e
grown_only (z ∷ xs) x (suc i) y e = grown_only xs x i y e

cut_still : (ns more : List ℕ) (a n : ℕ) → a + n ≤ length ns → take n (drop a (ns ++ more)) ≡ take n (drop a ns)
cut_still ns more a n h = simp (drop-append-le a ns more (omega arith), take-append-le n (drop a ns) more (omega (arith, length-drop a ns)))

row_still : (ns more : List ℕ) (s : Span) → s.start + s.objects + s.tables ≤ length ns → row_of (ns ++ more) s ≡ row_of ns s
row_still ns more s h = simp (cut_still ns more s.start s.objects (omega arith), cut_still ns more (s.start + s.objects) s.tables h)

-- numbers behind all rows change none
pub rows_still : (ns more : List ℕ) (ss : List Span) → AreWithin ns ss → map (row_of (ns ++ more)) ss ≡ map (row_of ns) ss
rows_still ns more [] within = refl
rows_still ns more (s ∷ ss) within =
    rw (row_still ns more s (within zero s refl), rows_still ns more ss (λ i. within (suc i))) refl

row_new : (ns os ts : List ℕ) → row_of ((ns ++ os) ++ ts) (span (length ns) (length os) (length ts)) ≡ row os ts
row_new ns os ts = grind (arith, common_steps, drop_at, length-append, append_assoc, take_at, take_all)

-- the rows with one more
pub rows_more : (ns os ts : List ℕ) (ss : List Span) (a b d : ℕ) → AreWithin ns ss → a ≡ length ns → b ≡ length os → d ≡ length ts
    → map (row_of ((ns ++ os) ++ ts)) (ss ++ span a b d ∷ []) ≡ map (row_of ns) ss ++ row os ts ∷ []
rows_more ns os ts ss a b d within is_a is_b is_d = grind (arith, common_steps, append_assoc, rows_still, map-append, row_new)

-- each of them ends among the numbers
pub within_more : (ns os ts : List ℕ) (ss : List Span) (a b d : ℕ) → AreWithin ns ss → a ≡ length ns → b ≡ length os → d ≡ length ts
    → AreWithin ((ns ++ os) ++ ts) (ss ++ span a b d ∷ [])
within_more ns os ts ss a b d within is_a is_b is_d = grind (arith, common_steps, grown_only, length-append)
