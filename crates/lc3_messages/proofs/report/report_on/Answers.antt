use Rattle.std.proofs.Common.{◌≡◌, rules, ap, ◌∙◌}
use Rattle.std.proofs.lemmas.Result.{IfOk-weaker}
use Rattle.lc3_messages.specs.Counts.{error_count}
use Rattle.lc3_messages.proofs.CountLemmas.{errors-as-accepted, warnings-as-told}
use Rattle.lc3_messages.proofs.report.report_on.Goals as goal

pub returns-in_ok-findings-in-Ok-clause-errors : goal.returns-in_ok-findings-in-Ok-clause-errors
returns-in_ok-findings-in-Ok-clause-errors c =
    let same : c.in-Ok.content.now ≡ c.args.bytes.now = search rules in
    IfOk-weaker c.report_of.result _ _ (λ r counted utf8. rw (← same) (errors-as-accepted c.in-Ok.content.now _ _ _ r.errors c.in_ok-findings-in-Ok.ensures.told (counted ∙ ap error_count c.deref.ensures.value)))
    c.report_of.ensures.errors

pub returns-in_ok-findings-in-Ok-clause-warnings : goal.returns-in_ok-findings-in-Ok-clause-warnings
returns-in_ok-findings-in-Ok-clause-warnings c =
    let same : c.in-Ok.content.now ≡ c.args.bytes.now = search rules in
    IfOk-weaker c.report_of.result _ _ (λ r counted utf8. rw (← same) (warnings-as-told _ _ _ r.warnings c.in_ok-findings-in-Ok.ensures.told (rw c.deref.ensures.value at counted)))
    c.report_of.ensures.warnings

pub returns-in_ok-findings-in-Ok-clause-written : goal.returns-in_ok-findings-in-Ok-clause-written
returns-in_ok-findings-in-Ok-clause-written c =
    let same : c.in-Ok.content.now ≡ c.args.bytes.now = search rules in
    IfOk-weaker c.report_of.result _ _ (λ r written utf8. (c.in_ok-findings-in-Ok.findings.items, rw same at c.in_ok-findings-in-Ok.ensures.told, rw c.deref.ensures.value at written))
    c.report_of.ensures.written
