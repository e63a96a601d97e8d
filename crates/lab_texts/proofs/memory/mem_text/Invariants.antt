use Rattle.std.proofs.Common.{◌≡◌, ◌+◌, ◌++◌, string_bytes}
use Rattle.std.specs.Prelude.{slice_index}
use Rattle.lab_sched.specs.Held.{process_view}
use Rattle.lab_sched.specs.Worlds.{machine_of}
use Rattle.lab_texts.specs.Texts.{word_line}
use Rattle.lab_texts.specs.Rows.{texts_below}
use Rattle.lab_texts.proofs.memory.mem_text.Given as goal

-- the texts so far are added
abbrev pub invariant-loop-i : goal.invariant-loop-i
invariant-loop-i l =
    string_bytes l.text ≡ string_bytes l.initial.text ++ texts_below l.i (λ k. word_line (l.address + k) (slice_index (machine_of (process_view l.process)).memory (l.address + k)))
