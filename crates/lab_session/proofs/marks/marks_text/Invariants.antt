use Rattle.std.proofs.Common.{◌≡◌, ◌++◌, drop, string_bytes}
use Rattle.lab_session.specs.MarkTexts.{marks_text}
use Rattle.lab_session.proofs.marks.marks_text.Given as goal

-- the marks so far and those that are left are all of them
abbrev pub invariant-loop-mark : goal.invariant-loop-mark
invariant-loop-mark l = string_bytes l.text ++ marks_text l.listings l.world (drop l.mark-index l.marks) ≡ marks_text l.listings l.world l.marks
