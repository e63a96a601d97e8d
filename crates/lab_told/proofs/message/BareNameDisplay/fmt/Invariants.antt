use Rattle.std.proofs.Common.{flat_map}
use Rattle.std.specs.Fmt.{HasWritten, IsPlainFormatter}
use Rattle.ipc_traps.specs.Names.{words_at}
use Rattle.lab_sched.specs.Held.{process_view}
use Rattle.lab_sched.specs.Worlds.{machine_of}
use Rattle.lab_told.specs.Words.{character_text}
use Rattle.lab_told.proofs.message.BareNameDisplay.fmt.Given as goal

-- the words so far are written
abbrev pub invariant-loop-i : goal.invariant-loop-i
invariant-loop-i g l =
    IsPlainFormatter l.initial.f
    → HasWritten g.W.Write.write_str_gives l.initial.f (flat_map character_text (words_at (machine_of (process_view l.process)).memory l.at l.i)) l.f
