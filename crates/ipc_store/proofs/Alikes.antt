-- Kernels of which the one is the other with its places renamed, and what each change makes of both.
use Rattle.std.proofs.Common.{◌≡◌, ℕ, ◌==◌, ◌<◌, ◌≤◌, false, List, length, map, set, length-set, refl, sym, ap, subst, ◌∙◌, inl, inr, arith, if◌then◌else◌, rules}
use Rattle.std.proofs.lemmas.Bool.{cases_lt, eq-eqb, ne_eqb}
use Rattle.std.proofs.lemmas.Bool.Decides.{eqb_tells}
use Rattle.std.proofs.lemmas.Option.{unwrap_or-slice_get}
use Rattle.ipc_kernel.specs.declared.place.Place.{Place}
use Rattle.ipc_kernel.specs.declared.place.Place.TheVariants.{Empty}
use Rattle.ipc_kernel.specs.declared.process.OpenTables.{OpenTables}
use Rattle.ipc_kernel.specs.Places.{place_at, place_or_empty, places_or_empty}
use Rattle.ipc_kernel.specs.Kernel.{KernelState}
use Rattle.ipc_kernel.specs.Alike.{renamed_process, IsPermutation, IsRenaming, IsAlike, IsConsistent}
use Rattle.ipc_kernel.proofs.PlaceLemmas.{get_or-emptied, length-emptied}
use Rattle.ipc_kernel.proofs.KernelLemmas.{kept-Empty}
use Rattle.ipc_kernel.proofs.IndexLemmas.{place_at-set_same, place_at-set_other, place_at-past}
use Rattle.ipc_store.proofs.Renamings.{processes_stay, renamed_twice, is_referred-renamed}
use Rattle.std.proofs.lemmas.Grind.{common_steps}

-- what a place holds once each without a name and a reference is emptied
pub place_at-emptied : (processes : List OpenTables) (ps : List Place) (i : ℕ) → place_at (places_or_empty processes ps) i ≡ place_or_empty processes i (place_at ps i)
place_at-emptied processes ps i = grind (arith, common_steps, cases_lt, unwrap_or-slice_get, get_or-emptied, place_at-past, length-emptied, kept-Empty)

-- the kernel whose places without a name and a reference are emptied
abbrev pub done : KernelState → KernelState
done k = record k { places = places_or_empty k.processes k.places }

pub renaming_done : (f g : ℕ → ℕ) (k j : KernelState) → IsRenaming f g k j → IsRenaming f g (done k) (done j)
renaming_done f g k j r = grind (arith, common_steps, length-emptied, place_at-emptied, is_referred-renamed)

-- a place of each is written
pub renaming_place : (f g : ℕ → ℕ) (k j : KernelState) → IsRenaming f g k j → length k.places ≡ 64 → (a : ℕ) (x : Place)
    → IsRenaming f g (record k { places = set k.places a x }) (record j { places = set j.places (f a) x })
renaming_place f g k j r count a x = record {
  permutation = r.permutation;
  count = length-set j.places (f a) x ∙ r.count ∙ sym (length-set k.places a x);
  places = λ i. elim (eqb_tells i a) [
    | inl same ↦ subst (λ n. place_at (set j.places (f a) x) (f n) ≡ place_at (set k.places a x) n) (sym same.1) here
    | inr apart ↦ place_at-set_other j.places (f i) (f a) x (λ e. apart.1 (sym (r.permutation.undone i) ∙ ap g e ∙ r.permutation.undone a)) ∙ r.places i ∙ sym (place_at-set_other k.places i a x apart.1)
  ];
  processes = r.processes;
}
  where
    past : (ps : List Place) (n : ℕ) → length ps ≡ 64 → 64 ≤ n → place_at (set ps n x) n ≡ Empty
    past ps n is h = place_at-past (set ps n x) n (omega (arith, length-set ps n x))

    here : place_at (set j.places (f a) x) (f a) ≡ place_at (set k.places a x) a
    here = elim (cases_lt a 64) [
      | inl less ↦
          let inside : f a < 64 = (r.permutation.within a).1 less in
          place_at-set_same j.places (f a) x (omega (arith, r.count)) ∙ sym (place_at-set_same k.places a x (omega arith))
      | inr more ↦ elim (cases_lt (f a) 64) [
        | inl inside ↦ absurd (let less : a < 64 = (r.permutation.within a).0 inside in omega arith)
        | inr outside ↦ past j.places (f a) (r.count ∙ count) outside ∙ sym (past k.places a count more)
      ]
    ]

-- the tables of the processes are written
pub renaming_processes : (f g : ℕ → ℕ) (k j : KernelState) → IsRenaming f g k j → (ps qs : List OpenTables) → qs ≡ map (renamed_process f) ps → IsRenaming f g (record k { processes = ps }) (record j { processes = qs })
renaming_processes f g k j r ps qs same = record { permutation = r.permutation; count = r.count; places = r.places; processes = same }

-- each number stays
pub permutation_itself : IsPermutation (λ n. n) (λ n. n)
permutation_itself = record { undone = λ n. refl; redone = λ n. refl; within = λ n. (λ e. e, λ e. e) }

-- one renaming after another
pub permutation_then : (f g h i : ℕ → ℕ) → IsPermutation f g → IsPermutation h i → IsPermutation (λ n. h (f n)) (λ n. g (i n))
permutation_then f g h i p q = search rules

pub renaming_then : (f g h i : ℕ → ℕ) (k j l : KernelState) → IsRenaming f g k j → IsRenaming h i j l → IsRenaming (λ n. h (f n)) (λ n. g (i n)) k l
renaming_then f g h i k j l r q = grind (arith, common_steps, permutation_then, renamed_twice)

pub alike_then : (k j l : KernelState) → IsAlike k j → IsAlike j l → IsAlike k l
alike_then k j l a b = (λ n. b.0 (a.0 n), λ n. a.1 (b.1 n), renaming_then a.0 a.1 b.0 b.1 k j l a.2 b.2)

-- a kernel is alike itself
pub alike_itself : (k : KernelState) → IsAlike k k
alike_itself k = grind (arith, common_steps, permutation_itself, processes_stay)

-- a renaming undone
pub alike_back : (k j : KernelState) → IsAlike k j → IsAlike j k
alike_back k j a = (
  g,
  f,
  record {
    permutation = record {
      undone = h.redone;
      redone = h.undone;
      within = λ i. (λ e. subst (λ n. n < 64) (h.redone i) ((h.within (g i)).1 e), λ e. (h.within (g i)).0 (subst (λ n. n < 64) (sym (h.redone i)) e));
    };
    count = sym r.count;
    places = λ i. sym (r.places (g i)) ∙ ap (place_at j.places) (h.redone i);
    processes = sym (ap (map (renamed_process g)) r.processes ∙ renamed_twice f g k.processes ∙ processes_stay (λ i. g (f i)) k.processes (λ n e. h.undone n));
  },
)
  where
    f : ℕ → ℕ
    f = a.0

    g : ℕ → ℕ
    g = a.1

    r : IsRenaming f g k j
    r = a.2

    h : IsPermutation f g
    h = r.permutation

-- and so is an equal one
pub alike_same : (k j : KernelState) → k ≡ j → IsAlike k j
alike_same k j same = subst (λ x. IsAlike k x) same (alike_itself k)

-- two places exchanged
abbrev pub swap : ℕ → ℕ → ℕ → ℕ
swap x y i = if i == x then y else if i == y then x else i

pub swap_first : (x y i : ℕ) → i ≡ x → swap x y i ≡ y
swap_first x y i e = rw (eq-eqb i x e) refl

pub swap_second : (x y i : ℕ) → i ≡ y → swap x y i ≡ x
swap_second x y i e = elim (eqb_tells i x) [ inl same ↦ rw same.0 (sym e ∙ same.1) | inr apart ↦ rw (apart.0, eq-eqb i y e) refl ]

pub swap_other : (x y i : ℕ) → (i == x) ≡ false → (i == y) ≡ false → swap x y i ≡ i
swap_other x y i e d = rw (e, d) refl

-- what can be said of an exchanged place by its kind
by_swap : (P : ℕ → ℕ → Type 0) (x y i : ℕ) → (i ≡ x → P i y) → (i ≡ y → P i x) → ((i == x) ≡ false → (i == y) ≡ false → P i i) → P i (swap x y i)
by_swap P x y i first second other = search rules

pub swap_permutes : (x y : ℕ) → x < 64 → y < 64 → IsPermutation (swap x y) (swap x y)
swap_permutes x y h d = search rules

-- two empty places of a kernel can be exchanged
renaming_swap : (k : KernelState) (x y : ℕ) → IsConsistent k → x < 64 → y < 64 → place_at k.places x ≡ Empty → place_at k.places y ≡ Empty → IsRenaming (swap x y) (swap x y) k k
renaming_swap k x y s h d e f = grind (arith, common_steps, swap_permutes, by_swap, processes_stay, swap_other, ne_eqb)

-- a renaming of a kernel with an empty place a that takes it to an empty place b
pub renaming_to : (f g : ℕ → ℕ) (k j : KernelState) (a b : ℕ) → IsConsistent k → IsRenaming f g k j → a < 64 → b < 64 → place_at k.places a ≡ Empty → place_at j.places b ≡ Empty
    → (h : ℕ → ℕ) × (i : ℕ → ℕ) × IsRenaming h i k j × (h a ≡ b)
renaming_to f g k j a b s r ha hb ea eb =
    let inside : g b < 64 = (r.permutation.within (g b)).0 (subst (λ n. n < 64) (sym (r.permutation.redone b)) hb) in
    let empty : place_at k.places (g b) ≡ Empty = sym (r.places (g b)) ∙ ap (place_at j.places) (r.permutation.redone b) ∙ eb in
    let first = renaming_swap k a (g b) s ha inside ea empty in (
      λ n. f (swap a (g b) n),
      λ n. swap a (g b) (g n),
      renaming_then (swap a (g b)) (swap a (g b)) f g k k j first r,
      ap f (swap_first a (g b) a refl) ∙ r.permutation.redone b,
    )
