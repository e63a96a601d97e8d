-- What is written of what tells answers.
use Rattle.std.proofs.Common.{ℕ, List, [], Option, refl, sym}
use Rattle.std.proofs.lemmas.List.{append-nil}
use Rattle.std.proofs.KnownBytes.{Appends-nil}
use Rattle.std.specs.Io.KnownBytes.{Appends}
use Rattle.lab_io.specs.Device.{AppendsPrefix}

-- where nothing was written, a beginning of it was
pub nothing_told : (old : Option (List ℕ)) (text : List ℕ) → AppendsPrefix old old text
nothing_told old text = record { sent = []; unsent = text; whole = refl; appended = Appends-nil old }

-- where all was written, so was a beginning of it
pub all_begun : (old new : Option (List ℕ)) (text : List ℕ) → Appends old new text → AppendsPrefix old new text
all_begun old new text appended = record { sent = text; unsent = []; whole = sym (append-nil text); appended = appended }
