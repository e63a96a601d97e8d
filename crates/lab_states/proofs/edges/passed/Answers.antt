use Rattle.std.proofs.Common.{◌≡◌, ◌+◌, ◌-◌, arith, refl, subst}
use Rattle.lab_states.specs.Private.Edges.{ArePast}
use Rattle.lab_worlds.proofs.Pushes.{got}
use Rattle.lab_states.proofs.EdgeLists.{all_past}
use Rattle.lab_states.proofs.edges.passed.Goals as goal

pub returns-in-Some-clause-past : goal.returns-in-Some-clause-past
returns-in-Some-clause-past c high between =
    let ends = c.args.ends.now in
    let at = c.args.at in
    let before = c.args.row - 1 in
    let end = c.in-Some.end.now in
    let read = c.in-Some.ensures.lookup in
    let next : before + 1 ≡ c.args.row = omega arith in
    subst (λ n. ArePast ends n at) next (all_past ends high before at end between (got ends ends before end refl read.3.0 read.1) c.if-end-at.true)
