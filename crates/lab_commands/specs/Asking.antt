-- What is asked, by the words of the command line.
use Rattle.std.specs.Prelude.{ℕ, ◌≡◌, Bool, true, false, cond, min, Option, Some, None, List, [], ◌∷◌, ◌++◌, All, Any, codes, flat_map, map, option_map, string_bytes}
use Rattle.lc3_word.specs.Blanks.{words_between}
use Rattle.lc3_word.specs.Numbers.{unsigned_number}
use Rattle.lab_arguments.specs.Pieces.{is_of_calls}
use Rattle.lab_arguments.specs.declared.question.Question.{Question}
use Rattle.lab_arguments.specs.declared.requirements.Requirements.{Requirements}
use Rattle.lab_arguments.specs.declared.requirements.Rest.{Rest}
use Rattle.lab_arguments.specs.declared.requirements.Rest.TheVariants as rest
use Rattle.lab_conditions.specs.declared.condition.Part.{Part}
use Rattle.lab_conditions.specs.declared.condition.Part.TheVariants as part
use Rattle.lab_conditions.specs.declared.condition.State.{State}
use Rattle.lab_conditions.specs.declared.condition.State.TheVariants as state
use Rattle.lab_conditions.specs.declared.never.Never.{Never}
use Rattle.lab_conditions.specs.Written.{Writes, condition_in}
use Rattle.lab_worlds.specs.Calls.{Alongside}
use Rattle.lab_ways.specs.declared.wanted.Wanted.{Wanted}
use Rattle.lab_questions.specs.Asked.{questions}
use Rattle.lab_questions.specs.CallWords.{Asks, forbids}
use Rattle.lab_questions.specs.Written.{need_in, need_read}
use Rattle.lab_questions.specs.declared.answers.Answers.{Answers}
use Rattle.lab_questions.specs.declared.asked.Asked.{Asked}
use Rattle.lab_questions.specs.declared.asked.Waiter.{Waiter}
use Rattle.lab_questions.specs.declared.asked.Word.{Word}
use Rattle.lab_questions.specs.declared.asked.Word.TheVariants as word
use Rattle.lab_questions.specs.declared.asked.CallWord.{CallWord}
use Rattle.lab_questions.specs.declared.output.OutputNeed.{OutputNeed}

-- the word that says how processes must come to rest
abbrev pub rest_words : Option Rest → List Word
rest_words None = []
rest_words (Some rest.Ended) = word.Ended ∷ []
rest_words (Some rest.Stuck) = word.Stuck ∷ []
rest_words (Some rest.Halted) = word.Halted ∷ []

-- the words that requirements are, in the order in which they are answered
abbrev pub required_words : Requirements → List Word
required_words r = rest_words r.rest ++ cond r.empty (word.Empty ∷ []) [] ++ cond r.same (word.Same ∷ []) []

-- one of these is what the text writes, if it writes what must never be so without labels
abbrev pub IsAsked : List Never → List ℕ → Type 0
IsAsked nevers text = (n : Never) → Writes text n → Any (Writes text) nevers

-- the text asks for this, as what must never be so or as what must be
abbrev pub AsksSo : Bool → List ℕ → Wanted → Type 0
AsksSo never text wanted = Asks text wanted × (forbids wanted.pattern ≡ never)

-- the text requires this of outputs
abbrev pub IsNeeded : List ℕ → OutputNeed → Type 0
IsNeeded text need = (need_in text ≡ Some (need_read need.alternatives.items)) × (string_bytes need.text ≡ text)

-- the word requires it
abbrev pub IsRequired : List ℕ → Word → Type 0
IsRequired text word.Ended = ⊥
IsRequired text word.Stuck = ⊥
IsRequired text word.Halted = ⊥
IsRequired text word.Empty = ⊥
IsRequired text word.Same = ⊥
IsRequired text (word.Output need) = IsNeeded text need

-- a text, unless it is of calls
abbrev pub output_if : List ℕ → List (List ℕ)
output_if text = cond (is_of_calls text) [] (text ∷ [])

-- the process that one word names
abbrev pub process_alone : List (List ℕ) → Option ℕ
process_alone [] = None
process_alone (number ∷ []) = option_map (λ n. min n 1_000_000_000) (unsigned_number 10 number)
process_alone (number ∷ other ∷ words) = None

-- the process of one part of a condition that it stands at a place
abbrev pub standing_at : ℕ → State → Option Waiter
standing_at p state.Blocked = None
standing_at p state.Ended = None
standing_at p state.Crashed = None
standing_at p (state.At first last) = Some (record { process = p; first = first; last = last })

abbrev pub part_at : Part → Option Waiter
part_at (part.Semaphore name r x) = None
part_at (part.Queue name r x) = None
part_at (part.Of p s) = standing_at p s
part_at (part.MoreThan s n) = None

-- the same of a condition that is no more
abbrev pub waiter_at : List Part → Option Waiter
waiter_at [] = None
waiter_at (p ∷ []) = part_at p
waiter_at (p ∷ q ∷ parts) = None

-- a process that may wait anywhere, or else the one of such a condition
abbrev pub waiter_or : Option ℕ → Option (List Part) → Option Waiter
waiter_or (Some p) parts = Some (record { process = p; first = 0; last = 65535 })
waiter_or None None = None
waiter_or None (Some parts) = waiter_at parts

-- the process that a text without labels lets wait, and where
abbrev pub waiter_in : List ℕ → Option Waiter
waiter_in text = waiter_or (process_alone (words_between (codes " ") text)) (condition_in text)

-- this is it, if the text has no labels
abbrev pub MayBe : List ℕ → Waiter → Type 0
MayBe text v = (w : Waiter) → waiter_in text ≡ Some w → w ≡ v

-- what a text asks of calls, as what must never be so or as what must be
abbrev pub call_if : Bool → List ℕ → List (Bool × List ℕ)
call_if never text = cond (is_of_calls text) ((never, text) ∷ []) []

-- it is told so, and looked for
abbrev pub IsSought : Bool × List ℕ → CallWord → Type 0
IsSought asked w = (string_bytes w.text ≡ asked.1) × AsksSo asked.0 asked.1 w.wanted

-- all that is asked of calls, in order: what must be so, and then what must never be
abbrev pub calls_asked : Question → List (Bool × List ℕ)
calls_asked q = flat_map (λ word. call_if false word.now) q.outputs.items ++ flat_map (λ word. call_if true word.now) q.never.items

-- these are words, with those that texts require of outputs behind them
pub record AreWords (required words : List Word) (texts : List (List ℕ)) : Type 0 where
  pub outputs : List Word
  pub is : words ≡ required ++ outputs
  pub needed : Alongside IsRequired texts outputs

-- what is asked is that of a question, but for what its labels stand for
pub record AsksFor (q : Question) (asked : Asked) : Type 0 where
  pub words : AreWords (required_words q.required) asked.words.items (flat_map (λ word. output_if word.now) q.outputs.items)
  pub waiters : Alongside MayBe (map (λ word. word.now) q.waiters.items) asked.waiters.items
  pub never : All (λ word. IsAsked asked.never.items word.now) q.never.items
  pub calls : Alongside IsSought (calls_asked q) asked.calls.items
  pub fair : asked.fair ≡ q.fair
  pub out : asked.show.out ≡ q.out
  pub left : asked.show.left ≡ q.left

-- the answers are on all that is asked, each on its question
pub record AreOn (asked : Asked) (a : Answers) : Type 0 where
  pub questions : map (λ x. x.question) a.answers.items ≡ questions asked
  pub waiters : a.waiters ≡ asked.waiters
  pub fair : a.fair ≡ asked.fair
  pub show : a.show ≡ asked.show

-- the answers are on what a question asks
pub record IsAskedBy (q : Question) (a : Answers) : Type 0 where
  pub asked : Asked
  pub asks : AsksFor q asked
  pub answered : AreOn asked a
