use Rattle.std.proofs.Common.{◌≡◌, ◌<◌, ◌^◌, drop}
use Rattle.lab_frames.specs.Headers.{number_after}
use Rattle.lab_frames.proofs.header.number_of.Given as goal

-- the digits so far write the number, and those that are left go on from it
abbrev pub invariant-loop-digit : goal.invariant-loop-digit
invariant-loop-digit l = (number_after 0 l.word ≡ number_after l.number (drop l.digit-index l.word)) × (l.number < 10 ^ 15)
