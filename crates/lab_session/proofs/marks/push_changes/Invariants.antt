use Rattle.std.proofs.Common.{◌≡◌, ◌++◌, drop, string_bytes}
use Rattle.lab_session.specs.MarkTexts.{changes_text}
use Rattle.lab_session.proofs.marks.push_changes.Given as goal

-- the changes so far and those that are left are all of them
abbrev pub invariant-loop-word : goal.invariant-loop-word
invariant-loop-word l =
    string_bytes l.text ++ changes_text l.listings l.world (drop l.word-index l.watched) ≡ string_bytes l.initial.text ++ changes_text l.listings l.world l.watched
