-- Numbers of ends, and one end more.
use Rattle.std.proofs.Common.{ℕ, ◌≡◌, List, [], ◌∷◌, ◌++◌, length, slice_get, subst, sym}
use Rattle.lab_worlds.specs.declared.ends.End.{End}
use Rattle.lab_worlds.proofs.Pushes.{alongside_push, both_weaker, get_pushed, keeps_push}
use Rattle.lab_worlds.specs.Calls.{Alongside}
use Rattle.lab_questions.specs.declared.asked.Show.{Show}
use Rattle.lab_questions.specs.EndTexts.{told_ends, IsAt, AreTold}

-- each number stays that of its end
all_more : (ends : List End) (e : End) (numbers : List ℕ) (told : List End) → Alongside (IsAt ends) numbers told → Alongside (IsAt (ends ++ e ∷ [])) numbers told
all_more ends e numbers told at p = both_weaker (IsAt ends) (IsAt (ends ++ e ∷ [])) (keeps_push ends e) (slice_get numbers p) (slice_get told p) (at p)

-- an end more that isn't told
pub numbers_known : (show : Show) (ends : List End) (e : End) (numbers : List ℕ) → told_ends show (ends ++ e ∷ []) ≡ told_ends show ends
    → AreTold show ends numbers → AreTold show (ends ++ e ∷ []) numbers
numbers_known show ends e numbers known told =
    subst (Alongside (IsAt (ends ++ e ∷ [])) numbers) (sym known) (all_more ends e numbers (told_ends show ends) told)

-- one that is
pub numbers_new : (show : Show) (ends : List End) (e : End) (olds news : List ℕ) (i : ℕ) → told_ends show (ends ++ e ∷ []) ≡ told_ends show ends ++ e ∷ []
    → length ends ≡ i → news ≡ olds ++ i ∷ [] → AreTold show ends olds → AreTold show (ends ++ e ∷ []) news
numbers_new show ends e olds news i new count is told =
    let R = IsAt (ends ++ e ∷ []) in
    subst (Alongside R news) (sym new) (subst (λ ns. Alongside R ns (told_ends show ends ++ e ∷ [])) (sym is)
    (alongside_push R olds (told_ends show ends) i e (all_more ends e olds (told_ends show ends) told) (subst (λ n. R n e) count (get_pushed ends e))))
