-- Why a part of a trace broke off.
use Rattle.std.specs.Prelude.{Bool, IsTrue, ⊤}
use Rattle.lab_trace.specs.declared.tracing.TraceFault.{TraceFault}
use Rattle.lab_trace.specs.declared.tracing.TraceFault.TheVariants.{NoProcess, Write, NoMemory}

-- why a part of a trace broke off
abbrev pub IsFault : TraceFault → Bool → Type 0
IsFault (NoProcess done) failed = ⊥
IsFault Write failed = IsTrue failed
IsFault NoMemory failed = ⊤
