-- The text of a verdict.
use Rattle.std.specs.Prelude.{ℕ, List, ◌++◌, codes}
use Rattle.lab_sched.specs.Worlds.{WorldState}
use Rattle.lab_sched.specs.Verdicts.{verdict_of, verdict_word}
use Rattle.lab_sched.specs.declared.verdict.Verdict.{Verdict}

-- the line of a verdict
abbrev pub verdict_line : Verdict → List ℕ
verdict_line v = codes "verdict " ++ verdict_word v ++ codes "\n"

-- the line of the verdict on a world
abbrev pub verdict_text : WorldState → List ℕ
verdict_text w = verdict_line (verdict_of w)
