use Rattle.std.proofs.Common.{◌≡◌, ◌++◌, string_bytes}
use Rattle.ipc_kernel.specs.Processes.{descriptor_of, slot_of}
use Rattle.lab_texts.specs.Objects.{descriptor_line, slot_line}
use Rattle.lab_texts.specs.Rows.{texts_below}
use Rattle.lab_texts.proofs.objects.fds_text.Given as goal

-- the texts so far are added
abbrev pub invariant-loop-mqd : goal.invariant-loop-mqd
invariant-loop-mqd l =
    string_bytes l.text ≡ string_bytes l.initial.text ++ texts_below l.mqd (λ d. descriptor_line d (descriptor_of l.world.kernel.processes l.pid d))

abbrev pub invariant-loop-slot : goal.invariant-loop-slot
invariant-loop-slot l =
    string_bytes l.text ≡ string_bytes l.initial.text ++ texts_below l.slot (λ s. slot_line s (slot_of l.world.kernel.processes l.pid s))
