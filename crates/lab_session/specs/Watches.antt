-- Watches: words of processes' memory whose change stops steps.
use Rattle.std.specs.Prelude.{ℕ, ◌==◌, not, Bool, Option, Some, None, List, map, slice_get, slice_index}
use Rattle.std.specs.List.{list_any}
use Rattle.lab_sched.specs.Worlds.{Process, WorldState, step, machine_of}
use Rattle.lab_session.specs.Marks.{of_kind}
use Rattle.lab_session.specs.declared.marks.Mark.{Mark}
use Rattle.lab_session.specs.declared.marks.MarkKind.TheVariants.{Watch}
use Rattle.lab_session.specs.declared.stepping.Watched.{Watched}

-- the word at an address of a process
abbrev pub word_of : ℕ → Option Process → ℕ
word_of a None = 0
word_of a (Some s) = slice_index (machine_of s).memory a

-- the word at a marked address
abbrev pub word_at : WorldState → Mark → ℕ
word_at w m = word_of m.address (slice_get w.processes m.pid)

-- a mark with the word there
abbrev pub watched_at : WorldState → Mark → Watched
watched_at w m = record { mark = m; word = word_at w m }

-- the watches among some marks, with the words there
abbrev pub watched_words : List Mark → WorldState → List Watched
watched_words ms w = map (watched_at w) (of_kind Watch ms)

-- whether another word is at a watched address now
abbrev pub has_changed : WorldState → Watched → Bool
has_changed w x = not (word_at w x.mark == x.word)

-- whether a step of process pid changes a watched word
abbrev pub changes_watched : List Mark → ℕ → WorldState → Bool
changes_watched ms pid w = list_any (has_changed (step w pid)) (watched_words ms w)
