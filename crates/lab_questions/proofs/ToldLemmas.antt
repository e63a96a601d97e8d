-- What is told where all ends were found.
use Rattle.std.proofs.Common.{◌≡◌, List, sym, ◌∙◌}
use Rattle.lab_sched.specs.Worlds.{WorldState, run}
use Rattle.lab_sched.proofs.VerdictLemmas.{verdict_from}
use Rattle.lab_worlds.specs.declared.ends.End.{End}
use Rattle.lab_worlds.proofs.Pushes.{all_at}
use Rattle.lab_worlds.specs.Ends.{IsEnd, AreEnds, HaveAllEnds}
use Rattle.lab_questions.specs.declared.asked.Show.{Show}
use Rattle.lab_questions.specs.Shown.{shown_text}
use Rattle.lab_questions.specs.EndTexts.{text_of, told_ends}
use Rattle.lab_questions.proofs.OneText.{same_text}
use Rattle.lab_questions.proofs.ToldEnds.{told_some, any_of}
use Rattle.lab_questions.specs.Programs.{TellEveryEnd}

-- each world at rest has the text of an end that is told
pub tell_every_end : (show : Show) (start : WorldState) (ends : List End) → AreEnds start ends → HaveAllEnds start ends → TellEveryEnd show start (told_ends show ends)
tell_every_end show start ends each all ps rest =
    let w = run start ps in
    let one = all ps rest in
    let e = one.1 in
    let end = all_at (IsEnd start) ends one.0 e each one.2 in
    let verdict = sym (verdict_from e.world e.verdict end.verdict) ∙ verdict_from w e.verdict one.4 in
    let same = same_text show w e.world one.3.processes one.3.kernel verdict in
    let some = told_some show (λ s t. Unit {0}) (λ x. tt) ends e (λ j k x h l. tt) (one.0, one.2) in
    any_of (λ t. text_of show t ≡ shown_text show w) (told_ends show ends) some.0 some.1 (some.2 ∙ same)
