use Rattle.std.proofs.Common.{append_assoc}
use Rattle.std.proofs.Output.{has_written_of_eq}
use Rattle.lab_told.specs.Attributes.{most_field, size_field}
use Rattle.lab_told.proofs.asking.SizesDisplay.fmt.Goals as goal

pub returns-clause-writes : goal.returns-clause-writes
unfolding most_field size_field
returns-clause-writes g c = λ plain ok. has_written_of_eq _ _ _ _ _ (simp append_assoc) (c.write.ensures.writes plain ok)
