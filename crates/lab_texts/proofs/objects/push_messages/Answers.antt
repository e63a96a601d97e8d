use Rattle.std.proofs.Common.{◌++◌, ap, sym, ◌∙◌, string_bytes}
use Rattle.ipc_objects.specs.declared.queue.Message.{Message}
use Rattle.lab_texts.specs.Objects.{message_line}
use Rattle.lab_texts.proofs.RowLemmas.{flat_map-next}
use Rattle.lab_texts.proofs.objects.push_messages.Goals as goal

pub loop-i-preserved : goal.loop-i-preserved
loop-i-preserved c =
    let messages = c.args.queue.now.messages in
    let message : Message = record { priority = c.in-Some.priority; words = c.in-Some.words.now } in
    let at = sym (rw c.in-Some.is at c.entry.ensures.message) in
    c.in_ok-push_message.ensures.text ∙ ap (λ bytes. bytes ++ message_line message) c.loop-i.invariant
    ∙ flat_map-next message_line (string_bytes c.args.text.now) messages c.loop-i.i message at
