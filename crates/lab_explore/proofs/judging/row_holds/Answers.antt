use Rattle.std.proofs.Common.{◌↔◌, IsTrue, map, subst}
use Rattle.lab_sched.specs.Held.{process_view}
use Rattle.lab_conditions.specs.Conditions.{Holds, world_of}
use Rattle.lab_explore.proofs.JudgedRows.{row_judged}
use Rattle.lab_explore.proofs.judging.row_holds.Goals as goal

pub returns-clause-holds : goal.returns-clause-holds
returns-clause-holds c =
    let kernel = c.put_for.new.last.kernel in
    let condition = c.args.condition.now in
    let holds = c.in_ok-holds_in.field-0 in
    row_judged c.args.store.now _ c.args.at condition kernel c.in_ok-processes.processes.items holds c.in-Some.ensures.row c.in_ok-put_for.ensures.judges c.in_ok-processes.ensures.processes
    (subst (λ xs. IsTrue holds ↔ Holds condition (world_of kernel (map (λ s. process_view s.now) xs))) c.as_slice.ensures.value c.in_ok-holds_in.ensures.holds)
