-- Kernels whose semaphores are low, as their objects are.
use Rattle.std.proofs.Common.{◌≡◌, ℕ, true, List, map, Option, Some, None, unwrap_or, slice_get, refl, sym, ap, subst, ◌∙◌}
use Rattle.std.specs.Option.{option_map}
use Rattle.std.specs.List.{list_all}
use Rattle.std.proofs.lemmas.Option.{slice_get-map}
use Rattle.ipc_kernel.specs.declared.place.Place.{Place}
use Rattle.ipc_kernel.specs.declared.place.Place.TheVariants.{Empty}
use Rattle.ipc_kernel.specs.declared.process.OpenTables.{OpenTables}
use Rattle.ipc_kernel.specs.Kernel.{KernelState}
use Rattle.ipc_kernel.specs.Places.{place_at}
use Rattle.ipc_store.specs.Rows.{KernelRow, kernel_of}
use Rattle.ipc_store.specs.Uses.{is_low, are_low}
use Rattle.ipc_store.proofs.KeptLemmas.{place_of_row, kernel_of_row}
use Rattle.ipc_store.proofs.NamedPlaces.{all_by}
use Rattle.ipc_store.proofs.SettledTables.{all_at}

row_low : (os : List Place) (ts : List OpenTables) (r : KernelRow) → list_all is_low os ≡ true → are_low (kernel_of os ts r).places ≡ true
row_low os ts r all = all_by is_low (kernel_of os ts r).places Empty (λ j. ap is_low (place_of_row os r.objects j) ∙ by (slice_get r.objects j))
  where
    by : (x : Option ℕ) → is_low (unwrap_or (option_map (place_at os) x) Empty) ≡ true
    by None = refl
    by (Some m) = all_at is_low os m Empty refl all

pub all_low : (os : List Place) (ts : List OpenTables) (rows : List KernelRow) (i : ℕ) (k : KernelState) → list_all is_low os ≡ true → slice_get (map (kernel_of os ts) rows) i ≡ Some k → are_low k.places ≡ true
all_low os ts rows i k all at = by (slice_get rows i) refl
  where
    by : (x : Option KernelRow) → slice_get rows i ≡ x → are_low k.places ≡ true
    by None e = let no : None ≡ Some k = sym (slice_get-map (kernel_of os ts) rows i ∙ ap (option_map (kernel_of os ts)) e) ∙ at in absurd (cc)
    by (Some r) e = subst (λ (x : KernelState). are_low x.places ≡ true) (kernel_of_row os ts rows i r k e at) (row_low os ts r all)
