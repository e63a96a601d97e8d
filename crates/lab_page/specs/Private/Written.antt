-- What is written of a step.
use Rattle.std.specs.Prelude.{◌≡◌, ℕ, List, ◌++◌}
use Rattle.lab_told.specs.Scenes.{Scene}
use Rattle.lab_trace.specs.Lines.{line}
use Rattle.lab_moments.specs.Pasts.{Past}
use Rattle.lab_page.specs.Faults.{IsFault}
use Rattle.lab_page.specs.Moments.{moment, next_past}
use Rattle.lab_page.specs.Private.Json.{more_json}
use Rattle.lab_page.specs.Private.Stores.{Stores, AddsStores}
use Rattle.lab_page.specs.declared.paging.PageFault.{PageFault}
use Rattle.lab_page.specs.declared.run.Look.{Look}

-- the JSON of a run and the lines of its trace, as far as its steps are taken, and what is kept of these
pub record Written : Type 0 where
  pub json : List ℕ
  pub lines : List ℕ
  pub past : Past

-- the moment of the next step, of process p, and its line are added, and it is kept
abbrev pub AddsStep : Look → Scene → ℕ → Written → Written → Type 0
AddsStep v s p old new = new ≡ record {
  json = old.json ++ more_json (moment v.page v.whole s old.past p);
  lines = old.lines ++ line v.trace s p;
  past = next_past s p old.past;
}

-- so is what the step stores
abbrev pub TellsStep : Look → Scene → ℕ → Written × Stores → Written × Stores → Type 0
TellsStep v s p old new = AddsStep v s p old.0 new.0 × AddsStores s p old.1 new.1

-- why the moment of the next step isn't added
abbrev pub BreaksStep : Look → Scene → ℕ → Written × Stores → Written × Stores → PageFault → Type 0
BreaksStep v s p old new e = IsFault e (old.0.json ++ more_json (moment v.page v.whole s old.0.past p))
