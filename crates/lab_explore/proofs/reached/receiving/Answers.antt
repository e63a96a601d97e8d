use Rattle.std.proofs.Common.{◌∙◌, ap, arith, map}
use Rattle.std.proofs.lemmas.List.{take_all}
use Rattle.lab_sched.specs.Held.{process_view}
use Rattle.lab_conditions.specs.Losses.{is_receiving}
use Rattle.lab_explore.proofs.LossesOfRows.{mapped_more}
use Rattle.lab_states.proofs.SilentProcesses.{receiving_same}
use Rattle.lab_explore.proofs.reached.receiving.Goals as goal

pub loop-number-preserved : goal.loop-number-preserved
loop-number-preserved c =
    let kept = c.in-Some.ensures.state in
    mapped_more (λ s. is_receiving (process_view s)) c.args.store.now.states.processes c.loop-number.number kept.0 c.in_ok-is_receiving.field-0 c.loop-number.receiving.items c.push.new.self.items
    c.loop-number.invariant kept.1 (c.in_ok-is_receiving.ensures.value ∙ receiving_same (process_view c.in-Some.process.now) (process_view kept.0) kept.2) c.in_ok-push.ensures.items

pub returns : goal.returns
returns c =
    let states = c.args.store.now.states.processes in
    let past = c.loop-number-test.false in
    record { receiving = c.loop-number.invariant ∙ ap (map (λ s. is_receiving (process_view s))) (take_all c.loop-number.number states (omega (arith, past))) }
