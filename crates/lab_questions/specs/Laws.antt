-- What holds of the text for all ends and worlds.
use Rattle.std.specs.Prelude.{◌≡◌, ◌≢◌, List, All, Any, AllPairs, Contains}
use Rattle.ipc_kernel.specs.Alike.{IsConsistent}
use Rattle.lab_sched.specs.Worlds.{WorldState}
use Rattle.lab_worlds.specs.declared.ends.End.{End}
use Rattle.lab_worlds.specs.Calls.{AreAlike}
use Rattle.lab_questions.specs.declared.asked.Show.{Show}
use Rattle.lab_questions.specs.Shown.{shown_text}
use Rattle.lab_questions.specs.EndTexts.{text_of, told_ends}

-- of worlds that are alike the same is told
abbrev pub OneText : Type 0
OneText = (show : Show) (w v : WorldState) → IsConsistent w.kernel → AreAlike w v → shown_text show v ≡ shown_text show w

-- each end's text is that of one that is told, no two of these have one text, and each is an end
pub record TellsEachOnce (show : Show) (ends told : List End) : Type 0 where
  pub each : All (λ e. Any (λ t. text_of show t ≡ text_of show e) told) ends
  pub once : AllPairs (λ s t. text_of show s ≢ text_of show t) told
  pub only : All (Contains ends) told

-- the ends that are told do so
abbrev pub EachToldOnce : Type 0
EachToldOnce = (show : Show) (ends : List End) → TellsEachOnce show ends (told_ends show ends)
