-- What a page shows of a search.
use Rattle.std.specs.Prelude.{◌≡◌, ◌&&◌, ◌||◌, if◌then◌else◌, Bool, List, All, map}
use Rattle.lab_sched.specs.Worlds.{WorldState}
use Rattle.lab_pictures.specs.Pictures.{IsNode, IsStep, HaveAllSteps, BeginsAt}
use Rattle.lab_pictures.specs.declared.picture.Arrow.{Arrow}
use Rattle.lab_pictures.specs.declared.picture.Node.{Node}
use Rattle.lab_page.specs.declared.worlds.WorldEdge.{WorldEdge}
use Rattle.lab_page.specs.declared.ends.Answered.{Answered}
use Rattle.lab_page.specs.declared.ends.Answered.TheVariants.{Met, NotMet, Unknown}
use Rattle.lab_questions.specs.Answered.{fails, is_known}
use Rattle.lab_questions.specs.Asked.{asks_rest}
use Rattle.lab_questions.specs.declared.answers.Answer.{Answer}

-- an arrow of a picture as a page has it
abbrev pub edge_of : Arrow → WorldEdge
edge_of a = record { from = a.from; to = a.to; process = a.process }

-- these are the arrows of a picture of all worlds at calls that the start can come to
pub record ArePictured (start : WorldState) (edges : List WorldEdge) : Type 0 where
  pub nodes : List Node
  pub arrows : List Arrow
  pub shown : edges ≡ map edge_of arrows
  pub begins : BeginsAt start nodes
  pub vouched : All (IsNode start) nodes
  pub steps : All (IsStep nodes) arrows
  pub all : HaveAllSteps nodes arrows

-- the answer to what was asked, by whether it was found that it isn't so, and whether it is known
abbrev pub answered : Bool → Bool → Answered
answered fails known = if fails then NotMet else (if known then Met else Unknown)

-- the answer to a question: something shows that it isn't so, or some run never ends, and it asks that each comes to rest
abbrev pub answer_to : Bool → Answer → Answered
answer_to endless a = answered (fails a.found || asks_rest a.question && endless) (is_known a.found)
