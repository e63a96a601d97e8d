-- What is written of a step.
use Rattle.std.specs.Prelude.{ℕ, List, Option}
use Rattle.std.specs.Io.KnownBytes.{Appends}
use Rattle.lab_io.specs.Device.{Device, AppendsPrefix}
use Rattle.lab_told.specs.Scenes.{Scene}
use Rattle.lab_trace.specs.Forms.{Form}
use Rattle.lab_trace.specs.Lines.{line}
use Rattle.lab_trace.specs.Private.Faults.{IsFault}
use Rattle.lab_trace.specs.declared.tracing.TraceFault.{TraceFault}

module _ {D : Type 0} (contents : D → Option (List ℕ)) where
  -- the line of the next step, of process p
  abbrev pub WritesLine : Form → Scene → ℕ → Device D → Device D → Type 0
  WritesLine v s p old new = Appends (contents old.device) (contents new.device) (line v s p)

  -- a beginning of that line, and why no more
  abbrev pub BreaksLine : Form → Scene → ℕ → Device D → Device D → TraceFault → Type 0
  BreaksLine v s p old new e = AppendsPrefix (contents old.device) (contents new.device) (line v s p) × IsFault e new.failed
