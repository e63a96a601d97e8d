use Rattle.std.proofs.Common.{arith}
use Rattle.lab_states.proofs.RowTables.{row_part}
use Rattle.lab_states.proofs.row.Rows.numbers.Goals as goal

pub returns : goal.returns
returns c = record {
  row = rw (← c.self.view_is) (row_part c.self.inside.width c.self.inside.count c.self.inside.numbers.items c.deref.result.now c.args.at (omega (arith, c.if-at-self.false)) c.deref.ensures.value);
}
