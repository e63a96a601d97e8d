use Rattle.std.proofs.Common.{◌≡◌, ◌++◌, rules, string_bytes}
use Rattle.lc3_messages.proofs.WrittenLemmas.{messages_next}
use Rattle.lc3_messages.proofs.report.messages.Goals as goal

pub loop-one-preserved : goal.loop-one-preserved
loop-one-preserved c =
    let old = string_bytes c.loop-one.text in
    let new = string_bytes c.push_str.new.self in
    let message = string_bytes c.in_ok-message_on.field-0 in
    let all : new ≡ old ++ message = search rules in
    messages_next c.args.file.now c.args.told.now c.loop-one.one-index c.one-item.result c.one-item.result old new message c.loop-one-test.true c.one-item.is
    c.loop-one.invariant c.in_ok-message_on.ensures.message all
