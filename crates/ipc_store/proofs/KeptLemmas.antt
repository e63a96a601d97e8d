-- Kernels that are kept as rows.
use Rattle.std.proofs.Common.{◌≡◌, ℕ, ◌-◌, refl, ◌<◌, ◌≤◌, subst, inl, inr, List, [], ◌∷◌, ◌++◌, length, map, set, slice_get, unwrap_or, Option, Some, None, sym, ap, ◌∙◌, arith, replicate, IfSome, false, zero, suc, rules}
use Rattle.std.proofs.lemmas.Option.{slice_get_within, slice_get-map, slice_get-get_or, unwrap_or-slice_get}
use Rattle.ipc_store.proofs.SettledTables.{place_at-empties}
use Rattle.std.specs.Option.{option_map}
use Rattle.std.proofs.lemmas.List.{map-set, length-set, length-map, set-append_left, length-append, length-replicate}
use Rattle.ipc_kernel.specs.declared.place.Place.{Place}
use Rattle.ipc_kernel.specs.declared.place.Place.TheVariants.{Empty}
use Rattle.ipc_kernel.specs.declared.process.OpenTables.{OpenTables}
use Rattle.ipc_kernel.specs.Places.{place_at, is_empty, padded}
use Rattle.ipc_kernel.specs.Processes.{process_at}
use Rattle.ipc_kernel.specs.Kernel.{KernelState}
use Rattle.ipc_kernel.specs.Operands.{with_operand}
use Rattle.ipc_store.specs.Kept.{GrowsKept}
use Rattle.ipc_store.specs.Rows.{KernelRow, kernel_of, kept_kernels}
use Rattle.ipc_store.specs.Private.KeptRows.{row, Grows, AddsRow, IsRow, AreRows}
use Rattle.ipc_store.proofs.NumberLemmas.{numbered, mapped, map_at, map_within, written}
use Rattle.ipc_store.proofs.RowLemmas.{grown_has, grown_only}
use Rattle.std.proofs.lemmas.Grind.{common_steps}

abbrev kernel : List Place → List OpenTables → KernelState
kernel places processes = record { places = places; processes = processes }

-- rows stay such, with the same kernels, while their parts grow
pub rows_grow : (os qs : List Place) (ts us : List OpenTables) (rows : List KernelRow) → Grows os qs → Grows ts us → AreRows os ts rows → AreRows qs us rows
rows_grow os qs ts us rows more_objects more_tables are = λ i r e. let is = are i r e in record {
  of_objects = λ j n at. let x = is.of_objects j n at in (x.0, more_objects n x.0 x.1);
  of_tables = λ j n at. let x = is.of_tables j n at in (x.0, more_tables n x.0 x.1);
}

kernel_stays : (os qs : List Place) (ts us : List OpenTables) (r : KernelRow) → Grows os qs → Grows ts us → IsRow os ts r → kernel_of qs us r ≡ kernel_of os ts r
kernel_stays os qs ts us r more_objects more_tables is = grind (arith, common_steps, map_within)

-- what is kept grows
pub kept_grows : (os qs : List Place) (ts us : List OpenTables) (rows more : List KernelRow) → Grows os qs → Grows ts us → Grows rows more → AreRows os ts rows
    → GrowsKept (kept_kernels os ts rows) (kept_kernels qs us more)
kept_grows os qs ts us rows more more_objects more_tables more_rows are = grind (arith, common_steps, mapped, map_at, kernel_stays)

-- rows with one more at most
pub rows_with : (os : List Place) (ts : List OpenTables) (rows more : List KernelRow) (r : KernelRow) → AreRows os ts rows → IsRow os ts r → AddsRow rows more r → AreRows os ts more
rows_with os ts rows more r are is x = grind (arith, common_steps, grown_only)

pub adds_grows : (rows more : List KernelRow) (r : KernelRow) → AddsRow rows more r → Grows rows more
adds_grows rows more r x = grind (arith, common_steps, grown_has)

-- the kernel of a row by its parts
pub kernel_of_parts : (os : List Place) (ts : List OpenTables) (rows : List KernelRow) (i : ℕ) (ns ms : List ℕ) (places : List Place) (processes : List OpenTables)
    → slice_get rows i ≡ Some (row ns ms) → map (slice_get os) ns ≡ map Some places → map (slice_get ts) ms ≡ map Some processes
    → slice_get (map (kernel_of os ts) rows) i ≡ Some (kernel (padded 64 places) processes)
kernel_of_parts os ts rows i ns ms places processes at_i e f =
    map_at (kernel_of os ts) rows i (row ns ms) at_i ∙ simp (numbered os ns places Empty e, numbered ts ms processes (record { descriptors = []; slots = [] }) f)

-- a kernel that is kept is that of its row
pub kernel_of_row : (os : List Place) (ts : List OpenTables) (rows : List KernelRow) (i : ℕ) (r : KernelRow) (k : KernelState)
    → slice_get rows i ≡ Some r → slice_get (map (kernel_of os ts) rows) i ≡ Some k → kernel_of os ts r ≡ k
kernel_of_row os ts rows i r k at_i e = grind (arith, common_steps, map_at)

-- what holds of the kernel of a row holds of the one that is kept
pub of_kernel : (os : List Place) (ts : List OpenTables) (rows : List KernelRow) (i : ℕ) (r : KernelRow) (P : KernelState → Type 0) → slice_get rows i ≡ Some r → P (kernel_of os ts r)
    → (k : KernelState) → slice_get (map (kernel_of os ts) rows) i ≡ Some k → P k
of_kernel os ts rows i r P at_i holds k e = subst P (kernel_of_row os ts rows i r k at_i e) holds

-- what a padded list of places holds
place_behind : (ps : List Place) (m i : ℕ) → place_at (ps ++ replicate m Empty) i ≡ place_at ps i
place_behind [] m i = place_at-empties m i
place_behind (p ∷ ps) m zero = refl
place_behind (p ∷ ps) m (suc i) = place_behind ps m i

pub place_of_row : (os : List Place) (ns : List ℕ) (i : ℕ) → place_at (padded 64 (map (place_at os) ns)) i ≡ unwrap_or (option_map (place_at os) (slice_get ns i)) Empty
unfolding padded
place_of_row os ns i = place_behind (map (place_at os) ns) (64 - length (map (place_at os) ns)) i ∙ ap (λ y. unwrap_or y Empty) (slice_get-map (place_at os) ns i)

pub long_row : (os : List Place) (ns : List ℕ) → (length ns ≤ length (padded 64 (map (place_at os) ns))) × (64 ≤ length (padded 64 (map (place_at os) ns)))
    × (length ns ≤ 64 → length (padded 64 (map (place_at os) ns)) ≡ 64)
unfolding padded
long_row os ns =
    let m = 64 - length (map (place_at os) ns) in
    let all = length-append (map (place_at os) ns) (replicate m Empty) in
    let behind = length-replicate m Empty in
    let same = length-map ns (place_at os) in
    (omega (arith, all, behind, same), omega (arith, all, behind, same), λ h. omega (arith, all, behind, same))

in_row : (os : List Place) (ns : List ℕ) (i : ℕ) → i < length (padded 64 (map (place_at os) ns)) → slice_get (padded 64 (map (place_at os) ns)) i ≡ Some (unwrap_or (option_map (place_at os) (slice_get ns i)) Empty)
in_row os ns i h = slice_get-get_or _ i Empty h ∙ ap Some (sym (unwrap_or-slice_get _ i Empty) ∙ place_of_row os ns i)

padded_set : (n : ℕ) (ps : List Place) (i : ℕ) (x : Place) → i < length ps → padded n (set ps i x) ≡ set (padded n ps) i x
unfolding padded
padded_set n ps i x h = ap (λ m. set ps i x ++ replicate (n - m) Empty) (length-set ps i x) ∙ sym (set-append_left ps (replicate (n - length ps) Empty) i x h)

pub kernel_with : (os : List Place) (ts : List OpenTables) (ns ms : List ℕ) (i m j l : ℕ) (o : Place) (t : OpenTables) → i < length ns
    → slice_get os m ≡ Some o → slice_get ts l ≡ Some t → kernel_of os ts (row (set ns i m) (set ms j l)) ≡ with_operand (kernel_of os ts (row ns ms)) j i o t
kernel_with os ts ns ms i m j l o t h object tables = grind (arith, common_steps, map-set, padded_set, length-map)

-- the object that a row has at a place, and the tables that it has of a process
pub object_there : (os : List Place) (ts : List OpenTables) (ns ms : List ℕ) (place n : ℕ) → IsRow os ts (row ns ms) → slice_get ns place ≡ Some n
    → (o : Place) × (slice_get os n ≡ Some o) × (slice_get (padded 64 (map (place_at os) ns)) place ≡ Some o)
object_there os ts ns ms place n is at = grind (arith, common_steps, slice_get_within, long_row, in_row)

pub tables_there : (os : List Place) (ts : List OpenTables) (ns ms : List ℕ) (pid n : ℕ) → IsRow os ts (row ns ms) → slice_get ms pid ≡ Some n
    → (t : OpenTables) × (slice_get ts n ≡ Some t) × (slice_get (map (process_at ts) ms) pid ≡ Some t)
tables_there os ts ns ms pid n is at = grind (arith, common_steps, map_at)

-- where a row has no number the place of its kernel is empty
pub empty_there : (os : List Place) (ns : List ℕ) (place : ℕ) → slice_get ns place ≡ None → place < 64 → slice_get (padded 64 (map (place_at os) ns)) place ≡ Some Empty
empty_there os ns place none inside = grind (arith, common_steps, long_row, in_row)

pub no_object : (os : List Place) (ns : List ℕ) (place : ℕ) (o : Place) → slice_get ns place ≡ None → slice_get (padded 64 (map (place_at os) ns)) place ≡ Some o → is_empty o ≡ false → ⊥
no_object os ns place o none at full =
    let empty : o ≡ Empty = sym (ap (λ y. unwrap_or y Empty) at) ∙ place_of_row os ns place ∙ ap (λ y. unwrap_or (option_map (place_at os) y) Empty) none in
    let f = rw empty at full in cc

-- where a row has no number its kernel has no tables
pub no_tables : (ts : List OpenTables) (ms : List ℕ) (pid : ℕ) (t : OpenTables) → slice_get ms pid ≡ None → slice_get (map (process_at ts) ms) pid ≡ Some t → ⊥
no_tables ts ms pid t none at = let n = mapped (process_at ts) ms pid t at in let f = n.1 in cc

-- the kernel that was assembled is the one that is kept
pub kernel_found : (found : Option KernelState) (o : Option KernelState) (j : KernelState) → o ≡ Some j → IfSome found (λ k. k ≡ j) → IfSome found (λ k. o ≡ Some k)
kernel_found x o j e h = search rules

-- a row in which a number of each part was written is kept
pub rows_changed : (os : List Place) (ts : List OpenTables) (rows more : List KernelRow) (ns ms vs us : List ℕ) (a i m j l : ℕ) (o : Place) (t : OpenTables)
    → AreRows os ts rows → slice_get rows a ≡ Some (row ns ms) → slice_get os m ≡ Some o → slice_get ts l ≡ Some t → vs ≡ set ns i m → us ≡ set ms j l
    → AddsRow rows more (row vs us) → AreRows os ts more
rows_changed os ts rows more ns ms vs us a i m j l o t are at_a object tables e f adds =
    let is = are a (row ns ms) at_a in
    rows_with os ts rows more (row vs us) are (rw (e, f) (record {
      of_objects = λ b n at. elim (written ns i m b n at) [ inl new ↦ (o, rw new object) | inr old ↦ is.of_objects b n old ];
      of_tables = λ b n at. elim (written ms j l b n at) [ inl new ↦ (t, rw new tables) | inr old ↦ is.of_tables b n old ];
    })) adds

pub kernel_changed : (os : List Place) (ts : List OpenTables) (rows more : List KernelRow) (ns ms vs us : List ℕ) (a b i m j l : ℕ) (o : Place) (t : OpenTables) (k : KernelState)
    → slice_get rows a ≡ Some (row ns ms) → slice_get (map (kernel_of os ts) rows) a ≡ Some k → i < length ns → slice_get os m ≡ Some o → slice_get ts l ≡ Some t
    → vs ≡ set ns i m → us ≡ set ms j l → slice_get more b ≡ Some (row vs us) → slice_get (map (kernel_of os ts) more) b ≡ Some (with_operand k j i o t)
kernel_changed os ts rows more ns ms vs us a b i m j l o t k at_a at_k h object tables e f at_b = grind (arith, common_steps, map_at, kernel_with, kernel_of_row)

-- where there is no row there is no kernel
pub no_kernel : (os : List Place) (ts : List OpenTables) (rows : List KernelRow) (i : ℕ) (k : KernelState) → slice_get rows i ≡ None → slice_get (map (kernel_of os ts) rows) i ≡ Some k → ⊥
no_kernel os ts rows i k none e = let r = mapped (kernel_of os ts) rows i k e in let f = r.1 in cc
