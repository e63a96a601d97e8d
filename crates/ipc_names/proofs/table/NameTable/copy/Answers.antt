use Rattle.std.proofs.Common.{◌∙◌}
use Rattle.ipc_names.proofs.TableLemmas.{map_of-clone}
use Rattle.ipc_names.proofs.table.NameTable.copy.Goals as goal

pub returns : goal.returns
returns c = record { equal = map_of-clone c.self.inside.places c.in_ok-places.places c.in_ok-places.ensures.cases ∙ c.self.view_is }
