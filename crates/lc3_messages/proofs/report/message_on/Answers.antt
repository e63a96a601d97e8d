use Rattle.std.proofs.Common.{string_bytes}
use Rattle.std.proofs.lemmas.Result.{IfOk-weaker}
use Rattle.lc3_messages.specs.Telling.{finding_told}
use Rattle.lc3_messages.proofs.WrittenLemmas.{is_message}
use Rattle.lc3_messages.proofs.report.message_on.Goals as goal

pub returns : goal.returns
returns c = record {
  message = IfOk-weaker c.format.result _ _
      (λ text is. is_message c.args.file.now (finding_told c.args.told.now) _ _ _ _ (string_bytes text) (rw c.heading_of.ensures.heading at is))
      c.format.ensures.ok;
}
