use Rattle.std.proofs.Common.{ℕ, List, ◌++◌, ap, ◌∙◌, string_bytes}
use Rattle.ipc_kernel.specs.Processes.{slot_of}
use Rattle.lab_texts.specs.Objects.{slot_line}
use Rattle.lab_texts.proofs.RowLemmas.{texts_below_more}
use Rattle.lab_texts.proofs.objects.fds_text.Goals as goal

pub loop-slot-preserved : goal.loop-slot-preserved
loop-slot-preserved c =
    let text : ℕ → List ℕ = λ s. slot_line s (slot_of c.args.world.now.kernel.processes c.args.pid s) in
    let held = rw c.kernel-in-loop-slot.ensures.kernel at c.slot.ensures.held in
    let wrote = rw held at c.in_ok-push_slot.ensures.text in
    wrote ∙ ap (λ bytes. bytes ++ text c.loop-slot.slot) c.loop-slot.invariant ∙ texts_below_more (string_bytes c.loop-mqd.text) text c.loop-slot.slot
