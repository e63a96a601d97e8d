use Rattle.std.proofs.Common.{◌∙◌, sym}
use Rattle.ipc_names.proofs.TableLemmas.{get-map_of}
use Rattle.ipc_names.proofs.table.NameTable.find.Goals as goal

pub returns : goal.returns
returns c = record { place = c.copied.ensures ∙ c.get.ensures.value ∙ rw (c.text.ensures.value, ← c.self.view_is) (sym (get-map_of c.self.inside.places c.args.name.now)) }
