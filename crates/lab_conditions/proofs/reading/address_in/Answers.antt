use Rattle.std.proofs.Common.{rules}
use Rattle.lab_conditions.proofs.AddressLemmas.{address_small}
use Rattle.lab_conditions.proofs.reading.address_in.Goals as goal

pub overflow_cast-result : goal.overflow_cast-result
overflow_cast-result c = search (rules, address_small)
