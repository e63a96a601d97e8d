use Rattle.std.proofs.Common.{◌+◌, arith}
use Rattle.lab_states.proofs.RowTables.{rows_pushed_of}
use Rattle.lab_states.proofs.row.Rows.push.Goals as goal

pub returns-clause-pushed : goal.returns-clause-pushed
returns-clause-pushed c done =
    rw (← c.self.view_is)
    (rows_pushed_of c.self.inside.width c.self.inside.count (c.self.inside.count + 1) c.self.inside.numbers.items c.args.numbers.now c.extend_from_slice.new.self.items c.in_ok-extend_from_slice.ensures.items (omega arith) c.self.invariant
    (omega (arith, c.if-numbers-self.false)))
