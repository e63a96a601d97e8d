-- What is asked.
use Rattle.std.specs.Prelude.{Bool, true, false, cond, List, ℕ, ◌++◌, codes, map, string_bytes}
use Rattle.lab_conditions.specs.Written.{never_text}
use Rattle.lab_questions.specs.CallWords.{forbids}
use Rattle.lab_questions.specs.declared.asked.Asked.{Asked}
use Rattle.lab_questions.specs.declared.asked.Question.{Question}
use Rattle.lab_questions.specs.declared.asked.Question.TheVariants.{Require, Never, Calls}
use Rattle.lab_questions.specs.declared.asked.Word.{Word}
use Rattle.lab_questions.specs.declared.asked.Word.TheVariants.{Ended, Stuck, Halted, Empty, Same, Output}

-- all questions, in order
abbrev pub questions : Asked → List Question
questions asked = map Require asked.words.items ++ map Never asked.never.items ++ map Calls asked.calls.items

-- a word as it is written
abbrev pub word_text : Word → List ℕ
word_text Ended = codes "ended"
word_text Stuck = codes "stuck"
word_text Halted = codes "halted"
word_text Empty = codes "empty"
word_text Same = codes "same"
word_text (Output need) = string_bytes need.text

-- a question as it is written
abbrev pub question_text : Question → List ℕ
question_text (Require word) = word_text word
question_text (Never never) = never_text never
question_text (Calls word) = string_bytes word.text

-- whether it says what must never be so
abbrev pub is_never : Question → Bool
is_never (Require word) = false
is_never (Never never) = true
is_never (Calls word) = forbids word.wanted.pattern

-- whether it is about the calls of every way
abbrev pub is_of_calls : Question → Bool
is_of_calls (Require word) = false
is_of_calls (Never never) = false
is_of_calls (Calls word) = true

-- whether a word asks that each run comes to rest
abbrev pub word_asks_rest : Word → Bool
word_asks_rest Ended = true
word_asks_rest Stuck = true
word_asks_rest Halted = true
word_asks_rest Empty = false
word_asks_rest Same = false
word_asks_rest (Output need) = false

-- whether a question does
abbrev pub asks_rest : Question → Bool
asks_rest (Require word) = word_asks_rest word
asks_rest (Never never) = false
asks_rest (Calls word) = false

-- how the line begins that tells that it isn't so
abbrev pub head_of : Question → List ℕ
head_of (Require word) = codes "not"
head_of (Never never) = codes "reached"
head_of (Calls word) = cond (forbids word.wanted.pattern) (codes "reached") (codes "uncalled")
