-- What functions return, in the words of the definition.
use Rattle.std.specs.Prelude.{◌≡◌, Result, Ok, Err}
use Rattle.lc3_table.specs.declared.operation.Fault.{Fault}
use Rattle.lc3_asm.specs.declared.passes.LineError.{LineError}
use Rattle.lc3_asm.specs.declared.passes.LineError.TheVariants as errors

-- a fault is the one that the definition has; of want of memory nothing is said
abbrev pub Fails : {Y : Type 0} → LineError → Result Y Fault → Type 0
Fails errors.Memory read = Unit {0}
Fails (errors.Fault f) read = read ≡ Err f

-- what a function returned, seen by view, is what the definition gives, unless memory ran out
abbrev pub Gives : {X Y : Type 0} → (X → Y) → Result X LineError → Result Y Fault → Type 0
Gives view (Ok x) read = read ≡ Ok (view x)
Gives view (Err e) read = Fails e read
