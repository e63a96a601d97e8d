-- The texts of marks, and of watched words that have changed.
use Rattle.std.specs.Prelude.{ℕ, if◌then◌else◌, Option, List, [], ◌∷◌, ◌++◌, codes}
use Rattle.std.specs.Fmt.{decimal}
use Rattle.lc3_word.specs.Words.{hexadecimal_text}
use Rattle.lab_sched.specs.Worlds.{WorldState}
use Rattle.lab_sources.specs.Places.{label_at}
use Rattle.lab_sources.specs.declared.source.Listing.{Listing}
use Rattle.lab_session.specs.Listings.{listing_of}
use Rattle.lab_session.specs.Watches.{word_at, watched_at, has_changed}
use Rattle.lab_session.specs.declared.marks.MarkKind.{MarkKind}
use Rattle.lab_session.specs.declared.marks.MarkKind.TheVariants.{Break, Watch}
use Rattle.lab_session.specs.declared.marks.Mark.{Mark}
use Rattle.lab_session.specs.declared.stepping.Watched.{Watched}

-- a marked address with its nearest label
unfoldable pub mark_text : List (Option Listing) → Mark → List ℕ
mark_text ls m = decimal m.pid ++ codes " " ++ hexadecimal_text m.address ++ codes " " ++ label_at m.address (listing_of ls m.pid)

-- a watched address with the word that was seen there
unfoldable pub watched_text : List (Option Listing) → Watched → List ℕ
watched_text ls x = codes "watch " ++ mark_text ls x.mark ++ codes " " ++ hexadecimal_text x.word

-- a mark of this kind that is set; a watch with the word there now
abbrev pub kind_text : MarkKind → List (Option Listing) → WorldState → Mark → List ℕ
kind_text Break ls w m = codes "break " ++ mark_text ls m ++ codes "\n"
kind_text Watch ls w m = watched_text ls (watched_at w m) ++ codes "\n"

-- a mark that is set
abbrev pub set_text : List (Option Listing) → WorldState → Mark → List ℕ
set_text ls w m = kind_text m.kind ls w m

-- each mark
abbrev pub marks_text : List (Option Listing) → WorldState → List Mark → List ℕ
marks_text ls w [] = []
marks_text ls w (m ∷ ms) = set_text ls w m ++ marks_text ls w ms

-- the word that tells that a mark of this kind is taken off
abbrev pub off_word : MarkKind → List ℕ
off_word Break = codes "clear "
off_word Watch = codes "unwatch "

-- a mark that is taken off
abbrev pub off_text : List (Option Listing) → Mark → List ℕ
off_text ls m = off_word m.kind ++ mark_text ls m ++ codes "\n"

-- a watched word that has changed, and the word that is there now
unfoldable pub change_line : List (Option Listing) → WorldState → Watched → List ℕ
change_line ls w x = watched_text ls x ++ codes " -> " ++ hexadecimal_text (word_at w x.mark) ++ codes "\n"

-- the same, or nothing where the word is the same
abbrev pub change_text : List (Option Listing) → WorldState → Watched → List ℕ
change_text ls w x = if has_changed w x then change_line ls w x else []

-- each watched word that has changed
abbrev pub changes_text : List (Option Listing) → WorldState → List Watched → List ℕ
changes_text ls w [] = []
changes_text ls w (x ∷ xs) = change_text ls w x ++ changes_text ls w xs
