use Rattle.std.proofs.Common.{[], ◌++◌, ap, append_assoc, codes, sym, ◌∙◌, option_copied}
use Rattle.ipc_objects.specs.declared.queue.Message.{Message}
use Rattle.lab_texts.proofs.RowLemmas.{flat_map-next}
use Rattle.lab_texts.specs.Objects.{message_line, name_text}
use Rattle.lab_questions.specs.Left.{left_line}
use Rattle.lab_questions.proofs.left.left_lines.Goals as goal

pub loop-i-preserved : goal.loop-i-preserved
unfolding left_line
loop-i-preserved c =
    let messages = c.args.queue.now.messages in
    let line = left_line (option_copied c.args.name) in
    let message : Message = record { priority = c.in-Some.priority; words = c.in-Some.words.now } in
    let at = sym (rw c.in-Some.is at c.entry.ensures.message) in
    c.in_ok-push_message.ensures.text
    ∙ ap (λ bytes. bytes ++ message_line message) (c.in_ok-write.ensures.bytes ∙ ap (λ bytes. bytes ++ (codes "left " ++ name_text (option_copied c.args.name))) c.loop-i.invariant)
    ∙ append_assoc _ (codes "left " ++ name_text (option_copied c.args.name)) (message_line message)
    ∙ flat_map-next line [] messages c.loop-i.i message at
