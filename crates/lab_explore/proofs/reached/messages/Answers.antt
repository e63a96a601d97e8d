use Rattle.std.proofs.Common.{◌≡◌, ◌∙◌, Some, ap, map, arith, slice_get, subst}
use Rattle.std.proofs.lemmas.List.{take_all}
use Rattle.lab_conditions.specs.Losses.{messages}
use Rattle.lab_explore.proofs.LossesOfRows.{mapped_more}
use Rattle.lab_explore.proofs.reached.messages.Goals as goal

pub loop-number-preserved : goal.loop-number-preserved
loop-number-preserved c =
    mapped_more messages c.args.store.now.kernels.kernels c.loop-number.number c.in-Some.kernel c.messages_in.result c.loop-number.counts.items c.push.new.self.items
    c.loop-number.invariant (subst (λ n. slice_get c.args.store.now.kernels.kernels n ≡ Some c.in-Some.kernel) c.in_ok-place_of.ensures.value (rw c.in-Some.is at c.in_ok-found.ensures.kept)) c.messages_in.ensures.count c.in_ok-push.ensures.items

pub returns : goal.returns
returns c =
    let kernels = c.args.store.now.kernels.kernels in
    let past = c.loop-number-test.false in
    record { counts = c.loop-number.invariant ∙ ap (map messages) (take_all c.loop-number.number kernels (omega (arith, past))) }
