-- Kernels that are kept with their places renamed, after an object was made.
use Rattle.std.proofs.Common.{◌≡◌, ℕ, ◌==◌, ◌<◌, ◌≤◌, inl, inr, Bool, true, false, cond, List, length, map, set, length-set, slice_get, unwrap_or, Some, sym, ap, subst, ◌∙◌, arith}
use Rattle.std.specs.Option.{option_map}
use Rattle.std.proofs.lemmas.Bool.{cases_lt}
use Rattle.std.proofs.lemmas.Bool.Decides.{eqb_tells}
use Rattle.std.proofs.lemmas.Option.{slice_get_within, slice_get_past}
use Rattle.std.proofs.lemmas.List.{ext_get_or, map-set}
use Rattle.ipc_kernel.specs.declared.place.Place.{Place}
use Rattle.ipc_kernel.specs.declared.place.Place.TheVariants.{Empty}
use Rattle.ipc_kernel.specs.declared.process.OpenTables.{OpenTables}
use Rattle.ipc_store.specs.declared.alike.Renaming.{Renaming}
use Rattle.ipc_kernel.specs.Places.{place_at, places_or_empty, padded}
use Rattle.ipc_kernel.specs.Processes.{process_at}
use Rattle.ipc_kernel.specs.Kernel.{KernelState, IsSettled}
use Rattle.ipc_kernel.specs.Alike.{IsRenaming, IsAlike, renamed_process}
use Rattle.ipc_kernel.specs.Operands.{with_operand}
use Rattle.ipc_store.specs.Rows.{KernelRow, kernel_of}
use Rattle.ipc_store.specs.Private.Renamings.{IsMoved, Permutes, renamed_by}
use Rattle.ipc_store.specs.Private.KeptRows.{row, Grows, AddsRow, AreRows}
use Rattle.ipc_store.proofs.Renamings.{nobody}
use Rattle.ipc_store.proofs.Alikes.{renaming_done}
use Rattle.ipc_kernel.proofs.IndexLemmas.{place_at-get_or, place_at-past, place_at-set_same, place_at-set_other}
use Rattle.ipc_kernel.proofs.PlaceLemmas.{length-emptied}
use Rattle.ipc_store.proofs.KeptLemmas.{place_of_row, long_row, rows_grow, rows_with, kernel_of_row}
use Rattle.ipc_store.proofs.NumberLemmas.{numbered, numbers_there, map_at}
use Rattle.std.proofs.lemmas.Grind.{common_steps}

-- all numbers stand where a renaming takes their places, if as many do as stand there, and these have their places from among so many
pub all_moved : (ns vs : List ℕ) (place number : ℕ) (r : Renaming) → Permutes r → place < length vs → length ns ≤ length vs → length vs ≤ 64
    → ((i : ℕ) → i < length vs → (renamed_by r.from i < length vs) × (slice_get vs (renamed_by r.to i) ≡ cond (i == place) (Some number) (slice_get ns i))) → IsMoved ns place number vs r.to
all_moved ns vs place number r p inside few few_moved these = grind (arith, common_steps, cases_lt, slice_get_past, eqb_tells)

-- a kernel that is alike a settled one is settled
renaming_settled : (f g : ℕ → ℕ) (k j : KernelState) → IsRenaming f g k j → IsSettled k → IsSettled j
renaming_settled f g k j r settled = ext_get_or Empty _ _ (length-emptied j.processes j.places) (λ n lt.
    sym (place_at-get_or (places_or_empty j.processes j.places) n) ∙ same n ∙ place_at-get_or j.places n)
  where
    same : (n : ℕ) → place_at (places_or_empty j.processes j.places) n ≡ place_at j.places n
    same n =
        let d = renaming_done f g k j r in
        ap (place_at (places_or_empty j.processes j.places)) (sym (r.permutation.redone n)) ∙ d.places (g n)
        ∙ ap (λ ps. place_at ps (g n)) settled ∙ sym (r.places (g n)) ∙ ap (place_at j.places) (r.permutation.redone n)

-- each place that is moved holds an object that is kept
objects_moved : (os : List Place) (ns vs : List ℕ) (place object : ℕ) (r : Renaming) (o : Place) → Permutes r → IsMoved ns place object vs r.to
    → slice_get os object ≡ Some o → ((i n : ℕ) → slice_get ns i ≡ Some n → (x : Place) × (slice_get os n ≡ Some x))
    → (i n : ℕ) → slice_get vs i ≡ Some n → (x : Place) × (slice_get os n ≡ Some x)
objects_moved os ns vs place object r o p moved made there i n e =
    let h : i < 64 = omega (arith, slice_get_within vs i n e, moved.few_moved) in
    let from : g i < 64 = (p.within (g i)).0 (subst (λ m. m < 64) (sym (p.redone i)) h) in
    by (g i == place) (sym e ∙ ap (slice_get vs) (sym (p.redone i)) ∙ moved.there (g i) from)
  where
    g : ℕ → ℕ
    g = renamed_by r.from

    by : (b : Bool) → Some n ≡ cond b (Some object) (slice_get ns (g i)) → (x : Place) × (slice_get os n ≡ Some x)
    by true d = let same : n ≡ object = cc in (o, ap (slice_get os) same ∙ made)
    by false d = there (g i) n (sym d)

length_places : (os : List Place) (ns : List ℕ) → length ns ≤ 64 → length (padded 64 (map (place_at os) ns)) ≡ 64
length_places os ns h = (long_row os ns).2 h

-- the places of a kernel, of which one was written, stand where they are taken
places_moved : (os : List Place) (ns vs : List ℕ) (place object : ℕ) (r : Renaming) (o : Place) → Permutes r → IsMoved ns place object vs r.to → slice_get os object ≡ Some o
    → (i : ℕ) → place_at (padded 64 (map (place_at os) vs)) (renamed_by r.to i) ≡ place_at (set (padded 64 (map (place_at os) ns)) place o) i
places_moved os ns vs place object r o p moved made i = elim (cases_lt i 64) [
  | inl less ↦ place_of_row os vs (f i) ∙ ap (λ y. unwrap_or (option_map (place_at os) y) Empty) (moved.there i less) ∙ elim (eqb_tells i place) [
    | inl same ↦ rw same.0 (ap (λ y. unwrap_or y Empty) made ∙ sym (ap (place_at after) same.1 ∙ place_at-set_same before place o (omega (arith, long, moved.inside))))
    | inr apart ↦ rw apart.0 (sym (place_at-set_other before i place o apart.1 ∙ place_of_row os ns i))
  ]
  | inr past ↦
      let far : 64 ≤ f i = elim (cases_lt (f i) 64) [ inl near ↦ absurd (let h : i < 64 = (p.within i).0 near in omega arith) | inr far ↦ far ] in
      place_at-past (padded 64 (map (place_at os) vs)) (f i) (omega (arith, length_places os vs moved.few_moved)) ∙ sym (place_at-past after i (omega (arith, length-set before place o, long)))
]
  where
    f : ℕ → ℕ
    f = renamed_by r.to

    before : List Place
    before = padded 64 (map (place_at os) ns)

    after : List Place
    after = set before place o

    long : length before ≡ 64
    long = length_places os ns moved.few

-- a kernel is kept with its places renamed, after a number of each part was written
pub kernel_with_new : (os : List Place) (ts us : List OpenTables) (rows more : List KernelRow) (ns ms vs ws : List ℕ) (a b place object pid tables : ℕ) (r : Renaming) (o : Place) (t : OpenTables) (k : KernelState) (xs : List OpenTables)
    → slice_get rows a ≡ Some (row ns ms) → slice_get (map (kernel_of os ts) rows) a ≡ Some k → slice_get os object ≡ Some o → slice_get ts tables ≡ Some t → Permutes r → IsMoved ns place object vs r.to
    → map (slice_get us) ws ≡ map Some xs → xs ≡ map (renamed_process (renamed_by r.to)) (map (process_at ts) (set ms pid tables)) → slice_get more b ≡ Some (row vs ws) → IsSettled (with_operand k pid place o t)
    → (j : KernelState) × (slice_get (map (kernel_of os us) more) b ≡ Some j) × IsAlike (with_operand k pid place o t) j × IsSettled j
kernel_with_new os ts us rows more ns ms vs ws a b place object pid tables r o t k xs at_a at_k made opened p moved kept renamed at_b settled =
    (j, map_at (kernel_of os us) more b (row vs ws) at_b, (renamed_by r.to, renamed_by r.from, renaming), renaming_settled (renamed_by r.to) (renamed_by r.from) after j renaming settled)
  where
    j : KernelState
    j = kernel_of os us (row vs ws)

    after : KernelState
    after = with_operand k pid place o t

    k_is : kernel_of os ts (row ns ms) ≡ k
    k_is = kernel_of_row os ts rows a (row ns ms) k at_a at_k

    processes : map (process_at ts) (set ms pid tables) ≡ set k.processes pid t
    processes = map-set (process_at ts) ms pid tables ∙ ap (λ x. set (map (process_at ts) ms) pid (unwrap_or x nobody)) opened ∙ ap (λ (x : KernelState). set x.processes pid t) k_is

    renaming : IsRenaming (renamed_by r.to) (renamed_by r.from) after j
    renaming = record {
      permutation = p;
      count = length_places os vs moved.few_moved ∙ sym (length-set k.places place o ∙ ap (λ (x : KernelState). length x.places) (sym k_is) ∙ length_places os ns moved.few);
      places = λ i. places_moved os ns vs place object r o p moved made i ∙ ap (λ (x : KernelState). place_at (set x.places place o) i) k_is;
      processes = numbered us ws xs nobody kept ∙ renamed ∙ ap (map (renamed_process (renamed_by r.to))) processes;
    }

-- and the row of that kernel is one of parts that are kept
pub rows_with_new : (os : List Place) (ts us : List OpenTables) (rows more : List KernelRow) (ns ms vs ws : List ℕ) (a place object : ℕ) (r : Renaming) (o : Place) (xs : List OpenTables)
    → Grows ts us → AreRows os ts rows → slice_get rows a ≡ Some (row ns ms) → slice_get os object ≡ Some o → Permutes r → IsMoved ns place object vs r.to
    → map (slice_get us) ws ≡ map Some xs → AddsRow rows more (row vs ws) → AreRows os us more
rows_with_new os ts us rows more ns ms vs ws a place object r o xs grows are at_a made p moved kept adds =
    rows_with os us rows more (row vs ws) (rows_grow os os ts us rows (λ i x e. e) grows are) (record {
      of_objects = objects_moved os ns vs place object r o p moved made (are a (row ns ms) at_a).of_objects;
      of_tables = numbers_there us ws xs kept;
    }) adds
