use Rattle.std.proofs.Common.{length, take, ◌-◌, ◌≡◌, ◌≤◌}
use Rattle.std.specs.Io.KnownBytes.{Appends}
use Rattle.lab_io.proofs.output.Output.write_all.Given as goal

-- the bytes before `done` are written, and nothing has failed so far
abbrev pub invariant-loop-done : goal.invariant-loop-done
invariant-loop-done g l = record {
  written : Appends (g.W.Write.contents l.initial.self.device) (g.W.Write.contents l.self.device) (take l.done l.bytes);
  same : l.self.failed ≡ l.initial.self.failed;
  within : l.done ≤ length l.bytes;
}

abbrev pub decreases-loop-done : goal.decreases-loop-done
decreases-loop-done g l = length l.bytes - l.done
