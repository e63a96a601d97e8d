use Rattle.std.proofs.Common.{arith, length, sym}
use Rattle.std.proofs.lemmas.Option.{slice_get_past, get_or_from_slice_get}
use Rattle.lab_states.proofs.EdgeLists.{from_is, past_more}
use Rattle.lab_states.proofs.edges.row_of.Goals as goal

pub returns-then-at-ends : goal.returns-then-at-ends
returns-then-at-ends c =
    let ends = c.args.ends.now in
    let row = c.loop-row.row in
    record {
      row = sym (from_is ends c.args.at row c.loop-row.invariant (omega arith) (λ e is. let here = get_or_from_slice_get ends row e 0 is in omega (arith, here)));
    }

pub loop-row-preserved : goal.loop-row-preserved
loop-row-preserved c =
    let ends = c.args.ends.now in
    let row = c.loop-row.row in
    past_more ends row c.args.at c.loop-row.invariant (λ e is. let here = get_or_from_slice_get ends row e 0 is in omega (arith, here))

pub returns : goal.returns
returns c =
    let ends = c.args.ends.now in
    record {
      row = sym (from_is ends c.args.at (length ends) (λ i e below is. c.loop-row.invariant i e (omega arith) is) (omega arith)
          (λ e is. absurd (cc (slice_get_past ends (length ends) (omega arith)))));
    }
