use Rattle.std.proofs.Common.{◌≡◌}
use Rattle.lab_notes.specs.Objects.{first_below, has_object_open}
use Rattle.lab_notes.proofs.objects.holder_of.Given as goal

-- the first so far
abbrev pub invariant-loop-pid : goal.invariant-loop-pid
invariant-loop-pid l = l.found ≡ first_below l.pid (has_object_open l.kernel l.made)
