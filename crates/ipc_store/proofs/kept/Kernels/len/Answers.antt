use Rattle.std.proofs.Common.{sym, ◌∙◌}
use Rattle.std.proofs.lemmas.List.{length-map}
use Rattle.ipc_store.specs.Rows.{kernel_of}
use Rattle.ipc_store.proofs.kept.Kernels.len.Goals as goal

pub returns : goal.returns
returns c = record { count = rw (← c.self.view_is) (c.len.ensures.count ∙ sym (length-map c.self.inside.rows (kernel_of c.self.inside.objects c.self.inside.tables))) }
