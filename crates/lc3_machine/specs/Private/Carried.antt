-- What was done of an outcome.
use Rattle.std.specs.Prelude.{◌≡◌, IsTrue}
use Rattle.lc3_machine.specs.declared.machine.Progress.{Progress}
use Rattle.lc3_machine.specs.declared.machine.Progress.TheVariants as progress
use Rattle.lc3_machine.specs.Process.{Process, Outcome, GoesOn, Stops, goes_on}

-- An outcome was carried out on a process: it went on, or it is unchanged. Want of memory keeps a process from going on.
abbrev pub CarriedOut : Outcome → Process → Progress → Process → Type 0
CarriedOut outcome old progress.Moved new = outcome ≡ GoesOn new
CarriedOut outcome old (progress.Stopped want) new = (outcome ≡ Stops want) × (new ≡ old)
CarriedOut outcome old progress.Short new = IsTrue (goes_on outcome) × (new ≡ old)
