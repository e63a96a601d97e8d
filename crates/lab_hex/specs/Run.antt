-- The run of an image by itself.
use Rattle.std.specs.Prelude.{ℕ, List, [], ◌∷◌, replicate}
use Rattle.lc3_word.specs.Segment.{Segment}
use Rattle.lc3_table.specs.declared.profile.Profile.TheVariants.{A}
use Rattle.lc3_machine.specs.Process.{start}
use Rattle.ipc_kernel.specs.Kernel.{empty_kernel}
use Rattle.lab_sched.specs.Worlds.{Running, WorldState, run}
use Rattle.lab_texts.specs.Reports.{report_text}

-- the world whose one process has this image and no console input
abbrev pub single_world : Segment → WorldState
single_world image = record { processes = Running (start A image.origin image.words []) ∷ []; kernel = empty_kernel 1 }

-- the same after n steps
unfoldable pub world_after : ℕ → Segment → WorldState
world_after n image = run (single_world image) (replicate n 0)

-- the report after 100,000 steps
abbrev pub report_of : Segment → List ℕ
report_of image = report_text (world_after 100000 image)
