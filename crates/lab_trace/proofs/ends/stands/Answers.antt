use Rattle.std.proofs.Common.{ℕ, List, [], ◌++◌, ap, ◌∙◌, slice_get}
use Rattle.lab_trace.specs.Ends.{stand_line}
use Rattle.lab_texts.proofs.RowLemmas.{texts_below_more}
use Rattle.lab_trace.proofs.ends.stands.Goals as goal

pub loop-pid-preserved : goal.loop-pid-preserved
loop-pid-preserved c =
    let text : ℕ → List ℕ = λ p. stand_line c.args.form.now c.args.world.now c.args.tally.now p (slice_get c.args.world.now.processes p) in
    c.in_ok-push_stand.ensures.text ∙ ap (λ bytes. bytes ++ text c.loop-pid.pid) c.loop-pid.invariant ∙ texts_below_more [] text c.loop-pid.pid
