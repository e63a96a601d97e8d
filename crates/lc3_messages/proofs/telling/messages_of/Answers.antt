use Rattle.std.proofs.Common.{ap, ◌∙◌, take}
use Rattle.std.proofs.lemmas.Result.{IfOk-weaker}
use Rattle.lc3_messages.specs.Told.{most_told}
use Rattle.lc3_messages.proofs.telling.messages_of.Goals as goal

pub returns : goal.returns
returns c = record {
  told =
      IfOk-weaker c.tell.result _ _
      (λ told same. record {
        found = c.in_ok-findings.findings.items;
        all = c.in_ok-findings.ensures.told;
        first = same ∙ c.first_findings.ensures.first ∙ ap (take most_told) c.deref.ensures.value;
      })
      c.tell.ensures.findings;
}
