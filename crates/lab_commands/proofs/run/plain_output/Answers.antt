use Rattle.std.proofs.Common.{ℕ, List, [], ◌++◌, ap, sym, ◌∙◌}
use Rattle.lab_commands.specs.Plain.{plain_part}
use Rattle.lab_texts.proofs.RowLemmas.{texts_below_none, texts_below_more}
use Rattle.lab_commands.proofs.run.plain_output.Goals as goal

pub loop-pid-init : goal.loop-pid-init
loop-pid-init c = c.new-bytes.ensures.items ∙ sym (texts_below_none [] _)

pub loop-pid-preserved : goal.loop-pid-preserved
loop-pid-preserved c =
    let text : ℕ → List ℕ = λ pid. plain_part pid c.args.world.now in
    c.in_ok-push_process.ensures.bytes ∙ ap (λ bytes. bytes ++ text c.loop-pid.pid) c.loop-pid.invariant ∙ texts_below_more [] text c.loop-pid.pid
