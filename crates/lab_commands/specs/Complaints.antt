-- When `explore` complains of what was found.
use Rattle.std.specs.Prelude.{◌||◌, Bool, true, false, Option, Some, None}
use Rattle.lab_worlds.specs.Met.{is_refused}
use Rattle.lab_questions.specs.Failures.{judges}
use Rattle.lab_questions.specs.declared.failure.Failure.{Failure}
use Rattle.lab_questions.specs.declared.failure.Failure.TheVariants.{Unmet, Endless, Empty, Incomplete}
use Rattle.lab_commands.specs.declared.explore.Search.{Search}

-- it is complained of this failure: what isn't known is no fault where nothing is required, unless memory was refused
abbrev pub is_complained_of : Search → Option Failure → Bool
is_complained_of s None = false
is_complained_of s (Some Incomplete) = is_refused s.answers.exploration || judges s.answers.answers.items
is_complained_of s (Some (Unmet k)) = true
is_complained_of s (Some Endless) = true
is_complained_of s (Some Empty) = true

-- it is complained of what was found
abbrev pub complains : Search → Bool
complains s = is_complained_of s s.answers.failure
