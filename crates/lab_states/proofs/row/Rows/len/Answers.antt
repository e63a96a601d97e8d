use Rattle.std.proofs.Common.{sym}
use Rattle.lab_states.proofs.RowTables.{rows_count}
use Rattle.lab_states.proofs.row.Rows.len.Goals as goal

pub returns : goal.returns
returns c = record { count = rw (← c.self.view_is) (sym (rows_count c.self.inside.width c.self.inside.count c.self.inside.numbers.items)) }
