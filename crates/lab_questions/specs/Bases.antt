-- What conditions rest on, and whether any steps lead to a world that has it.
use Rattle.std.specs.Prelude.{ℕ, ◌≡◌, ◌<◌, ◌==◌, ◌⊎◌, if◌then◌else◌, cond, Bool, true, false, Option, Some, None, List, [], ◌∷◌, ◌++◌, All, AllPairs, Contains, IsTrue, codes, flat_map, get_or, slice_get, string_bytes}
use Rattle.std.specs.Fmt.{decimal}
use Rattle.std.specs.List.{enumerate_from, slice_split}
use Rattle.lab_sched.specs.declared.schedule.Block.{Block}
use Rattle.lab_sched.specs.Execution.{AreEffective}
use Rattle.lab_sched.specs.Schedules.{steps_of}
use Rattle.lab_sched.specs.Worlds.{WorldState, run}
use Rattle.lab_conditions.specs.declared.condition.Condition.{Condition}
use Rattle.lab_conditions.specs.declared.condition.Part.{Part}
use Rattle.lab_conditions.specs.declared.condition.Part.TheVariants.{Semaphore, Queue, Of, MoreThan}
use Rattle.lab_conditions.specs.declared.condition.Relation.TheVariants.{Less}
use Rattle.lab_conditions.specs.declared.condition.State.{State}
use Rattle.lab_conditions.specs.declared.condition.State.TheVariants as state
use Rattle.lab_conditions.specs.declared.never.Never.{Never}
use Rattle.lab_conditions.specs.declared.never.Never.TheVariants.{Holds, Lost, Refused}
use Rattle.lab_conditions.specs.Conditions.{PartHolds}
use Rattle.lab_conditions.specs.Written.{is_word, words}
use Rattle.lab_questions.specs.declared.asked.Question.{Question}
use Rattle.lab_questions.specs.declared.asked.Question.TheVariants as question
use Rattle.lab_questions.specs.declared.bases.Basis.{Basis}
use Rattle.lab_questions.specs.declared.bases.Basis.TheVariants as basis

-- the words of each part of a condition, as it was typed
abbrev pub pieces_typed : List ℕ → List (List (List ℕ))
pieces_typed text = slice_split (is_word (codes "and")) (words text)

-- the word behind `at`, which may be the first word of a part, or the second behind a process
unfoldable pub place_typed : List (List ℕ) → List ℕ
place_typed [] = []
place_typed (at ∷ []) = []
place_typed (at ∷ place ∷ []) = if is_word (codes "at") at then place else []
place_typed (p ∷ at ∷ place ∷ rest) = if is_word (codes "at") p then at else if is_word (codes "at") at then place else []

-- the place where a process, or some process, is to stand
abbrev pub standing_in : Option ℕ → List ℕ → State → List Basis
standing_in p typed state.Blocked = []
standing_in p typed state.Ended = []
standing_in p typed state.Crashed = []
standing_in p typed (state.At first last) = basis.Place p first last typed ∷ []

-- what a part of a condition rests on, if it names an object, or a place, which was typed so
abbrev pub bases_in : List ℕ → Part → List Basis
bases_in typed (Semaphore name r x) = basis.Semaphore name ∷ []
bases_in typed (Queue name r x) = basis.Queue name ∷ []
bases_in typed (Of p x) = standing_in (Some p) typed x
bases_in typed (MoreThan x n) = standing_in None typed x

-- whether a process stands at a place
abbrev pub is_at : State → Bool
is_at state.Blocked = false
is_at state.Ended = false
is_at state.Crashed = false
is_at (state.At first last) = true

-- whether parts ask no more than whether a process comes to a place, which is something, whether or not one does
abbrev pub asks_arrival : List Part → Bool
asks_arrival (Of p x ∷ []) = is_at x
asks_arrival (MoreThan x n ∷ []) = if n == 0 then is_at x else false
asks_arrival parts = false

-- what the parts of a condition rest on, each beside its words
abbrev pub bases_typed : List (List (List ℕ)) → List Part → List Basis
bases_typed pieces parts = flat_map (λ e. bases_in (place_typed (get_or pieces e.0 [])) e.1) (enumerate_from 0 parts)

-- what a condition rests on
abbrev pub bases_of : Condition → List Basis
bases_of c = cond (asks_arrival c.parts.items) [] (bases_typed (pieces_typed (string_bytes c.text)) c.parts.items)

-- what is asked rests on
abbrev pub bases_asked : Never → List Basis
bases_asked (Holds c) = bases_of c
bases_asked Lost = []
bases_asked (Refused r) = []

-- what all that is asked rests on
abbrev pub all_bases : List Never → List Basis
all_bases conditions = flat_map bases_asked conditions

-- what a question rests on
abbrev pub bases_questioned : Question → List Basis
bases_questioned (question.Require word) = []
bases_questioned (question.Never never) = bases_asked never
bases_questioned (question.Calls word) = []

-- what is told where no steps lead to it
abbrev pub basis_text : Basis → List ℕ
basis_text (basis.Semaphore name) = codes "nobody opens sem " ++ name
basis_text (basis.Queue name) = codes "nobody opens mq " ++ name
basis_text (basis.Place None first last typed) = codes "nobody calls at " ++ typed
basis_text (basis.Place (Some p) first last typed) = codes "process " ++ (decimal p ++ (codes " never calls at " ++ typed))

-- the first place of one among some lies before each place of another
abbrev pub StandsBefore : List Basis → Basis → Basis → Type 0
StandsBefore bases b other = (i : ℕ) × (slice_get bases i ≡ Some b) × ((j : ℕ) → slice_get bases j ≡ Some other → i < j)

-- a process, or some process, stands so
abbrev pub stands : Option ℕ → State → Part
stands None x = MoreThan x 0
stands (Some p) x = Of p x

-- the part of a condition that holds of each world which has it: each value of a semaphore, and each number of messages in a
-- queue, is below 65,535
abbrev pub presence : Basis → Part
presence (basis.Semaphore name) = Semaphore name Less 65535
presence (basis.Queue name) = Queue name Less 65535
presence (basis.Place p first last typed) = stands p (state.At first last)

-- a world has it
abbrev pub IsThere : Basis → WorldState → Type 0
IsThere b w = PartHolds (presence b) w

-- effective steps lead from the start to a world that has it
pub record IsOnceThere (start : WorldState) (b : Basis) : Type 0 where
  pub schedule : List Block
  pub effective : AreEffective start (steps_of schedule)
  pub there : IsThere b (run start (steps_of schedule))

-- whatever steps are taken from the start, effective or not, the world after them hasn't it
abbrev pub IsNeverThere : WorldState → Basis → Type 0
IsNeverThere start b = (ps : List ℕ) → IsThere b (run start ps) → ⊥

-- of all that conditions rest on this is never there, so that those which rest on it ask nothing; the rest is at some time
pub record AreNeverThere (start : WorldState) (conditions : List Never) (bases : List Basis) : Type 0 where
  pub among : All (Contains (all_bases conditions)) bases
  pub never : All (IsNeverThere start) bases
  pub others : (b : Basis) → Contains (all_bases conditions) b → Contains bases b ⊎ IsOnceThere start b

-- the same of a search: of one that isn't complete nothing is told; each stands once, in the order in which the conditions name them first
pub record TellsEmpty (start : WorldState) (conditions : List Never) (complete : Bool) (bases : List Basis) : Type 0 where
  pub whole : IsTrue complete → AreNeverThere start conditions bases
  pub unknown : complete ≡ false → bases ≡ []
  pub order : AllPairs (StandsBefore (all_bases conditions)) bases
