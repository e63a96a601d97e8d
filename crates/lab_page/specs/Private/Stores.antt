-- What is kept of the words that steps store.
use Rattle.std.specs.Prelude.{◌≡◌, ℕ, Option, List, [], ◌∷◌, ◌++◌, length, slice_index_or, slice_set}
use Rattle.lab_sched.specs.Worlds.{WorldState, step}
use Rattle.lab_told.specs.Scenes.{Scene}
use Rattle.lab_moments.specs.Values.{all_below}
use Rattle.lab_page.specs.Stores.{origin_at, held_at, changed_words, stored_by}
use Rattle.lab_page.specs.declared.source.Source.{Source}
use Rattle.lab_page.specs.declared.run.Stored.{Stored}

-- the sources of the processes, what the memory of each process holds where its source has words, and the words so far
pub record Stores : Type 0 where
  pub sources : List (Option Source)
  pub held : List (List ℕ)
  pub stored : List Stored

-- what the memories of a world hold where sources have words
abbrev pub all_held : List (Option Source) → WorldState → List (List ℕ)
all_held sources w = all_below (length w.processes) (λ p. held_at sources w p ∷ [])

-- before the first step of a world
abbrev pub no_stores : List (Option Source) → WorldState → Stores
no_stores sources w = record { sources = sources; held = all_held sources w; stored = [] }

-- after step n, of process p, by the world after it
abbrev pub stores_after : ℕ → ℕ → WorldState → Stores → Stores
stores_after n p w k = record k {
  held = slice_set k.held p (held_at k.sources w p);
  stored = k.stored ++ changed_words n p (origin_at k.sources p) (slice_index_or k.held p []) (held_at k.sources w p);
}

-- what the next step of a scene, of process p, stores is added
abbrev pub AddsStores : Scene → ℕ → Stores → Stores → Type 0
AddsStores s p old new = old.held ≡ all_held old.sources s.world → new ≡ record {
  sources = old.sources;
  held = all_held old.sources (step s.world p);
  stored = old.stored ++ stored_by old.sources s.number s.world p;
}
