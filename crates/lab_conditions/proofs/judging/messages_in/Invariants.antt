use Rattle.std.proofs.Common.{◌≡◌, ◌≤◌, ◌*◌, sum_by, take}
use Rattle.lab_conditions.specs.Losses.{messages_at}
use Rattle.lab_conditions.proofs.judging.messages_in.Given as goal

-- the messages in the places so far are counted
abbrev pub invariant-loop-place : goal.invariant-loop-place
invariant-loop-place l = record {
  counted : l.count ≡ sum_by messages_at (take l.place l.kernel.places);
  few : l.count ≤ l.place * 65535;
}
