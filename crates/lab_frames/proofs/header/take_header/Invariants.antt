use Rattle.std.proofs.Common.{◌-◌, ◌<◌, ◌^◌}
use Rattle.std.specs.Prelude.{IfSome}
use Rattle.lab_frames.proofs.HeaderLemmas.{IsIn}
use Rattle.lab_frames.specs.Frames.{header_limit}
use Rattle.lab_frames.proofs.header.take_header.Given as goal

-- what came is so many bytes of header lines and what still comes
abbrev pub invariant-loop-taken : goal.invariant-loop-taken
invariant-loop-taken g l = IsIn (g.R.Read.remaining l.initial.input.device) (g.R.Read.remaining l.input.device) (header_limit - l.taken) l.line.items l.known
