-- The text of a schedule that was played.
use Rattle.std.specs.Prelude.{ℕ, Option, Some, None, List, ◌++◌, codes}
use Rattle.std.specs.Fmt.{decimal}
use Rattle.lab_sched.specs.Worlds.{WorldState}
use Rattle.lab_texts.specs.Texts.{status_text}
use Rattle.lab_texts.specs.Verdicts.{verdict_text}

-- after how many of all its steps a schedule stopped
unfoldable pub stop_text : ℕ → ℕ → List ℕ
stop_text n all = codes "stopped after " ++ decimal n ++ codes " of " ++ decimal all ++ codes "\n"

-- where a schedule stopped, and the status line of the process that stopped it; else the verdict line
abbrev pub play_text : ℕ → ℕ → Option ℕ → WorldState → List ℕ
play_text n all None w = verdict_text w
play_text n all (Some pid) w = stop_text n all ++ status_text pid w
