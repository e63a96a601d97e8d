-- What `explore` finds of the programs of a laboratory.
use Rattle.std.specs.Prelude.{◌≡◌, Bool, true, false, Option, Some, None, [], All, IsTrue, string_bytes}
use Rattle.std.specs.List.{list_any}
use Rattle.lab_sched.specs.Worlds.{WorldState}
use Rattle.lab_worlds.specs.Ends.{AreEnds}
use Rattle.lab_worlds.specs.Fairness.{AreFairlyBounded}
use Rattle.lab_worlds.specs.Lassos.{AreBounded}
use Rattle.lab_worlds.specs.Met.{IsCutShort}
use Rattle.lab_worlds.specs.declared.exploration.Limits.{Limits}
use Rattle.lab_worlds.specs.declared.random.Walks.{Walks}
use Rattle.lab_questions.specs.Answered.{IsAnswer, IsSo}
use Rattle.lab_questions.specs.Asked.{asks_rest}
use Rattle.lab_questions.specs.Failures.{failure_of, Passes}
use Rattle.lab_questions.specs.Searches.{HasEnds, HasRound, IsTrueText}
use Rattle.lab_questions.specs.Texts.{answers_text}
use Rattle.lab_questions.specs.declared.answers.Answers.{Answers}
use Rattle.lab_commands.specs.declared.explore.Search.{Search}

-- each answer, of walks or of a search, is so of the laboratory that begins so; the text tells them; and why not all is shown to be so
-- is the first that was found
pub record AreAnswers (walks : Bool) (start : WorldState) (a : Answers) : Type 0 where
  pub each : All (IsAnswer start a.waiters.items a.exploration) a.answers.items
  pub text : string_bytes a.text ≡ answers_text walks a.show a.exploration a.answers.items
  pub failure : a.failure ≡ failure_of a.exploration a.answers.items a.empty.items

-- what a search within limits tells is so of the laboratory
pub record IsSearched (limits : Limits) (start : WorldState) (a : Answers) : Type 0 where
  pub answers : AreAnswers false start a
  pub ends : HasEnds start a.exploration
  pub fair : a.exploration.fair ≡ a.fair
  pub round : HasRound start a.exploration
  pub says : IsTrueText start a.exploration.fair a.show (string_bytes a.text)
  pub passes : a.failure ≡ None → Passes a.exploration a.answers.items a.empty.items
  pub met : a.exploration.complete ≡ false → IsCutShort start limits a.exploration

-- what walks tell is so of the laboratory, and they never tell that it is all
pub record AreWalked (start : WorldState) (a : Answers) : Type 0 where
  pub answers : AreAnswers true start a
  pub ends : AreEnds start a.exploration.ends.items
  pub incomplete : a.exploration.complete ≡ false
  pub fails : a.failure ≡ None → ⊥

-- what is told of the laboratory is so, of walks, if there are any, and else of a search
abbrev pub IsFoundBy : Option Walks → Limits → WorldState → Answers → Type 0
IsFoundBy None limits start a = IsSearched limits start a
IsFoundBy (Some walks) limits start a = AreWalked start a

-- what was found is so of the laboratory
abbrev pub IsFound : WorldState → Search → Type 0
IsFound start s = IsFoundBy s.inquiry.reach.walks s.inquiry.reach.limits start s.answers

-- each run comes to rest, or each fair one, if these alone are asked for
pub record AllRest (start : WorldState) (fair : Bool) : Type 0 where
  pub bounded : fair ≡ false → AreBounded start
  pub fairly_bounded : IsTrue fair → AreFairlyBounded start

-- all that is asked is so of the laboratory, whatever steps are taken, and no condition asks nothing, as far as that is known
pub record HoldsAll (start : WorldState) (a : Answers) : Type 0 where
  pub so : All (λ x. IsSo start a.waiters.items x.question) a.answers.items
  pub asks : a.empty.items ≡ []
  pub rests : IsTrue (list_any (λ x. asks_rest x.question) a.answers.items) → AllRest start a.fair
