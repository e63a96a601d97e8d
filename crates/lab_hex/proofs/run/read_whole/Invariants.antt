use Rattle.std.proofs.Common.{◌≡◌, ◌≤◌, ◌-◌, false, length, vec_len}
use Rattle.std.specs.Io.KnownBytes.{Consumes}
use Rattle.lab_hex.proofs.run.read_whole.Given as goal

-- the bytes so far came from the input, which has not failed
abbrev pub invariant-loop-bytes : goal.invariant-loop-bytes
invariant-loop-bytes g l = record {
  came : Consumes (g.R.Read.remaining l.fn.input.device) (g.R.Read.remaining l.input.device) l.bytes.items;
  healthy : l.input.failed ≡ false;
  within : vec_len l.bytes ≤ 4000000;
  room : length l.chunk ≡ 8192;
}

abbrev pub decreases-loop-bytes : goal.decreases-loop-bytes
decreases-loop-bytes g l = 4000000 - vec_len l.bytes
