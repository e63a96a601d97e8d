use Rattle.std.proofs.Common.{ap, subst, ◌∙◌}
use Rattle.std.specs.Io.KnownBytes.{Appends}
use Rattle.std.proofs.lemmas.Result.{on_ok_weaker}
use Rattle.lab_trace.specs.Lines.{step_line}
use Rattle.lab_trace.proofs.LineLemmas.{line-told}
use Rattle.lab_trace.proofs.tracing.FormTellingOutput.tell_step.Goals as goal

pub returns-clause-told : goal.returns-clause-told
returns-clause-told g c = λ s next.
    let v = c.args.self.now in
    let taken = c.args.taken.now in
    let text = c.as_bytes.ensures.value ∙ c.in_ok-line.ensures.line ∙ ap (λ n. step_line v n taken.pid taken.told.now) next.number ∙ ap (λ t. step_line v s.number taken.pid t) next.told in
    on_ok_weaker c.write_text.result
    (λ more. line-told g.W.Write.contents v s taken _ _ next
    (subst (λ l. Appends (g.W.Write.contents c.args.output.now.device) (g.W.Write.contents c.write_text.new.output.device) l) text more))
    c.write_text.ensures.written
