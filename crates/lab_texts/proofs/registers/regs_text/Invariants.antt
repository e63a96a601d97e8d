use Rattle.std.proofs.Common.{◌≡◌, ◌++◌, string_bytes}
use Rattle.lab_sched.specs.Held.{process_view}
use Rattle.lab_sched.specs.Worlds.{machine_of}
use Rattle.lab_texts.specs.Texts.{register_part}
use Rattle.lab_texts.specs.Rows.{texts_below}
use Rattle.lab_texts.proofs.registers.regs_text.Given as goal

-- the texts so far are added
abbrev pub invariant-loop-number : goal.invariant-loop-number
invariant-loop-number l = string_bytes l.text ≡ string_bytes l.initial.text ++ texts_below l.number (register_part (machine_of (process_view l.process)))
