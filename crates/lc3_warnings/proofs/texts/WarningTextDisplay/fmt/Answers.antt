use Rattle.std.proofs.Common.{append_assoc}
use Rattle.std.proofs.Output.{has_written_of_eq}
use Rattle.lc3_warnings.proofs.texts.WarningTextDisplay.fmt.Goals as goal

pub returns-in-DecimalOrigin-clause-writes : goal.returns-in-DecimalOrigin-clause-writes
returns-in-DecimalOrigin-clause-writes g c = λ plain ok. has_written_of_eq _ _ _ _ _ (rw c.in-DecimalOrigin.is (simp append_assoc)) (c.write-in-DecimalOrigin.ensures.writes plain ok)

pub returns-in-RunsIntoData-clause-writes : goal.returns-in-RunsIntoData-clause-writes
returns-in-RunsIntoData-clause-writes g c = λ plain ok. has_written_of_eq _ _ _ _ _ (rw c.in-RunsIntoData.is (simp append_assoc)) (c.write-in-RunsIntoData.ensures.writes plain ok)
