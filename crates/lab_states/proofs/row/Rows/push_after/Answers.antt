use Rattle.std.proofs.Common.{◌+◌, arith, refl}
use Rattle.lab_states.proofs.RowTables.{row_pushed_after}
use Rattle.lab_states.proofs.row.Rows.push_after.Goals as goal

pub returns-clause-pushed : goal.returns-clause-pushed
returns-clause-pushed c done =
    rw (← c.self.view_is)
    (row_pushed_after c.self.inside.width c.self.inside.count (c.self.inside.count + 1) c.args.at c.args.kernel c.args.pid c.args.state c.len-first.result c.self.inside.numbers.items _ c.extend_from_within.new.self.items _ _
    c.self.invariant (omega arith) (omega (arith, c.if-at-self.false)) (omega arith) (omega (arith, c.if-pid-saturating_sub.false)) refl c.in_ok-extend_from_within.ensures.items refl refl)
