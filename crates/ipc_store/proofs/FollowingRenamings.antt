-- Renamings that follow another at each place with a name, and at each that is referred to.
use Rattle.std.proofs.Common.{◌≡◌, ℕ, ◌+◌, ◌<◌, true, false, List, Option, Some, None, rules}
use Rattle.ipc_kernel.specs.declared.place.Place.{Place}
use Rattle.ipc_store.specs.declared.alike.Renaming.{Renaming}
use Rattle.ipc_kernel.specs.Places.{place_at, has_name}
use Rattle.ipc_store.specs.Private.Renamings.{Follows}

-- a place with a name below a limit
abbrev pub NamedBelow : List Place → ℕ → ℕ → Type 0
NamedBelow ps limit i = (i < limit) × (has_name (place_at ps i) ≡ true)

-- the place is taken to that of its name
pub name_taken : (f : ℕ → ℕ) (ps : List Place) (at found : ℕ) (r s t : Renaming) → (has_name (place_at ps at) ≡ true → Some found ≡ Some (f at)) → (has_name (place_at ps at) ≡ false → Some found ≡ None)
    → Follows f (NamedBelow ps at) r s → (f at ≡ found → Follows f (λ i. i ≡ at) s t) → Follows f (NamedBelow ps (at + 1)) r t
name_taken f ps at found r s t named nameless before here = search rules

-- a place without a name isn't taken
pub no_name_taken : (f : ℕ → ℕ) (ps : List Place) (at : ℕ) (o : Option ℕ) (r s : Renaming) → o ≡ None → (has_name (place_at ps at) ≡ true → o ≡ Some (f at))
    → Follows f (NamedBelow ps at) r s → Follows f (NamedBelow ps (at + 1)) r s
no_name_taken f ps at o r s none named before = search rules
