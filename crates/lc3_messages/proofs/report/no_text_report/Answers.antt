use Rattle.std.proofs.Common.{string_bytes}
use Rattle.std.proofs.lemmas.Result.{IfOk-weaker}
use Rattle.lc3_messages.proofs.WrittenLemmas.{is_no_text}
use Rattle.lc3_messages.proofs.report.no_text_report.Goals as goal

pub returns-clause-written : goal.returns-clause-written
returns-clause-written c =
    IfOk-weaker c.counted.result _ _
    (λ r is. is_no_text c.args.file.now _ _ _ _ _ (string_bytes c.in_ok-format.field-0) (string_bytes r.text) c.in_ok-format.ensures.ok is)
    c.counted.ensures.text
