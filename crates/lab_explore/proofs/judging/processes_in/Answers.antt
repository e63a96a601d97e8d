use Rattle.std.proofs.Common.{ap, get_or, option_map}
use Rattle.std.proofs.lemmas.List.{get_or_default}
use Rattle.lab_sched.specs.Held.{process_view}
use Rattle.lab_explore.specs.Private.Judged.{IsSilently}
use Rattle.lab_explore.proofs.JudgedRows.{next_along}
use Rattle.lab_explore.proofs.judging.processes_in.Goals as goal

pub loop-state-preserved : goal.loop-state-preserved
loop-state-preserved c =
    let states = c.args.states.now in
    let n = c.loop-state.state-index in
    let state = get_or states n 0 in
    let within = c.loop-state-test.true in
    let kept = c.in-Some.ensures.state in
    next_along (λ i s. IsSilently c.args.store.now i (process_view s.now)) states c.loop-state.processes.items c.push.new.self.items n state c.in-Some.process c.loop-state.invariant within (get_or_default states n 0 state within)
    (process_view kept.0, ap (option_map process_view) kept.1, kept.2) c.in_ok-push.ensures.items
