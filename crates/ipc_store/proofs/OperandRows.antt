-- The places of objects with a name, and empty ones, in kernels that are kept as rows.
use Rattle.std.proofs.Common.{◌≡◌, ℕ, ◌<◌, ◌+◌, ◌-◌, Bool, true, false, cond, ◌||◌, List, [], ◌∷◌, ◌++◌, zero, suc, length, map, replicate, position, Option, Some, None, refl, sym, ap, ◌∙◌, arith, unwrap_or, rules}
use Rattle.std.specs.List.{list_all}
use Rattle.std.specs.Option.{option_map, option_or}
use Rattle.std.proofs.lemmas.List.{length-map}
use Rattle.ipc_kernel.specs.declared.place.Place.{Place}
use Rattle.ipc_kernel.specs.declared.place.Place.TheVariants.{Empty}
use Rattle.ipc_kernel.specs.declared.process.OpenTables.{OpenTables}
use Rattle.ipc_kernel.specs.declared.call.Call.{Call}
use Rattle.ipc_kernel.specs.declared.call.Handle.{Handle}
use Rattle.ipc_kernel.specs.Kernel.{KernelState}
use Rattle.ipc_kernel.specs.Places.{place_at, is_empty, has_name, is_name, place_named, padded}
use Rattle.ipc_kernel.specs.Operands.{handle_of, place_of, are_named, operand_in}
use Rattle.ipc_store.specs.declared.kept.objects.Kind.{Kind}
use Rattle.ipc_store.specs.Private.Kinds.{name_of}
use Rattle.std.proofs.lemmas.List.Folds.{list_all-append, list_all-map}
use Rattle.ipc_store.proofs.Renamings.{position-map}
use Rattle.ipc_store.proofs.SettledTables.{empty_named}
use Rattle.std.proofs.lemmas.Grind.{common_steps}

-- the first of an element and others
position-cons : {A : Type 0} (p : A → Bool) (x : A) (xs : List A) → position p (x ∷ xs) ≡ cond (p x) (Some 0) (option_map (λ i. 1 + i) (position p xs))
position-cons p x xs = search rules

or_none : {A : Type 0} (o : Option A) → option_or o None ≡ o
or_none x = search rules

-- the first stays it with others behind, and where there is none it is the first of the others
position-append : {A : Type 0} (p : A → Bool) (xs ys : List A) → position p (xs ++ ys) ≡ option_or (position p xs) (option_map (λ i. length xs + i) (position p ys))
position-append p [] ys = search rules
position-append p (x ∷ xs) ys = search (rules, position-cons, (position-append p xs ys))

nothing_named : (p : Place → Bool) (m : ℕ) → p Empty ≡ false → position p (replicate m Empty) ≡ None
nothing_named p zero e = refl
nothing_named p (suc m) e = position-cons p Empty (replicate m Empty) ∙ rw (e, nothing_named p m e) refl

empty_first : (m : ℕ) → 0 < m → position is_empty (replicate m Empty) ≡ Some 0
empty_first zero h = absurd (omega arith)
empty_first (suc m) h = position-cons is_empty Empty (replicate m Empty)

pub nameless : (kind : Kind) → name_of kind Empty ≡ None
nameless x = search rules

-- the place of a name in the kernel of a row
pub named_there : (kind : Kind) (os : List Place) (ns n : List ℕ) → place_named (name_of kind) (padded 64 (map (place_at os) ns)) n ≡ position (λ m. is_name n (name_of kind (place_at os m))) ns
unfolding padded
named_there kind os ns n =
    let p : Place → Bool = λ x. is_name n (name_of kind x) in
    simp (position-append, nothing_named p (64 - length (map (place_at os) ns)) (ap (is_name n) (nameless kind)), or_none, position-map)

-- the least empty place of the kernel of a row: that of its first number of no object, or the one behind all, if there is it
least_empty : (os : List Place) (ns : List ℕ) (x : Option ℕ) (i : ℕ) → x ≡ position (λ m. is_empty (place_at os m)) ns → unwrap_or x (length ns) ≡ i → i < 64
    → position is_empty (padded 64 (map (place_at os) ns)) ≡ Some i
unfolding padded
least_empty os ns (Some j) i is at less = simp (position-append, position-map, sym is) (ap Some at)
least_empty os ns None i is at less =
    let same = length-map ns (place_at os) in
    simp (position-append, position-map, sym is, empty_first (64 - length (map (place_at os) ns)) (omega (arith, same, at, less))) (ap Some (omega (arith, same, at)))

-- the place that an open works on in the kernel of a row
pub opened_there : (kind : Kind) (os : List Place) (ns n : List ℕ) (named x : Option ℕ) (i : ℕ) → named ≡ position (λ m. is_name n (name_of kind (place_at os m))) ns
    → x ≡ position (λ m. is_empty (place_at os m)) ns → unwrap_or named (unwrap_or x (length ns)) ≡ i → i < 64
    → option_or (place_named (name_of kind) (padded 64 (map (place_at os) ns)) n) (position is_empty (padded 64 (map (place_at os) ns))) ≡ Some i
opened_there kind os ns n y x i found empty at less = grind (arith, common_steps, named_there, least_empty)

-- each object of the kernel of a row has a name
pub padded_named : (os : List Place) (ns : List ℕ) → list_all (λ n. is_empty (place_at os n) || has_name (place_at os n)) ns ≡ true → are_named (padded 64 (map (place_at os) ns)) ≡ true
unfolding padded
padded_named os ns e = simp (list_all-append, list_all-map, e, empty_named (64 - length (map (place_at os) ns)))

-- a call on an open object works on that to which its descriptor or slot refers
pub operand_by_handle : (k : KernelState) (t : OpenTables) (c : Call) (h : Handle) (i : ℕ) → Some h ≡ handle_of c → place_of t h ≡ Some i → operand_in k t c ≡ Some i
operand_by_handle k t x h i e at = search rules
