-- What is asked of conditions, and of calls.
use Rattle.std.proofs.Common.{◌≡◌, ◌∙◌, ℕ, ◌+◌, ◌<◌, ◌≤◌, true, false, List, [], ◌∷◌, ◌++◌, Some, None, Bor, length, map, take, get_or, append-nil, ap, sym, subst, All, Any, flat_map, arith}
use Rattle.std.proofs.lemmas.List.{map-append, take_all, take_more}
use Rattle.std.proofs.lemmas.Grind.{common_steps}
use Rattle.std.proofs.lemmas.List.Elements.{All-more, All-weaker}
use Rattle.std.proofs.lemmas.List.Quantifiers.{Any-push}
use Rattle.std.proofs.lemmas.Option.{slice_get-get_or}
use Rattle.lab_conditions.specs.declared.never.Never.{Never}
use Rattle.lab_conditions.specs.declared.never.Never.TheVariants.{Holds, Lost, Refused}
use Rattle.lab_conditions.specs.Written.{words, condition_in, are_lost, refusal_in, Writes}
use Rattle.lab_worlds.specs.Calls.{Alongside}
use Rattle.lab_worlds.proofs.Pushes.{alongside_push}
use Rattle.lab_questions.proofs.ListLemmas.{flat_map-next}
use Rattle.lab_arguments.specs.declared.question.Question.{Question}
use Rattle.lab_questions.specs.declared.answers.Answers.{Answers}
use Rattle.lab_questions.specs.declared.asked.Asked.{Asked}
use Rattle.lab_commands.specs.Asking.{AreOn, AsksFor, IsAsked, IsAskedBy}

-- what is among some is among them with others behind
any_with : {A : Type 0} (P : A → Type 0) (xs ys : List A) → Any P xs → Any P (xs ++ ys)
any_with P xs ys (i, y, within, at, p) = (i, y, grind (arith, common_steps), grind (arith, common_steps), p)

-- what is asked stays asked, where more is
pub asked_with : (nevers more : List Never) (text : List ℕ) → IsAsked nevers text → IsAsked (nevers ++ more) text
asked_with nevers more text asked n w = any_with (Writes text) nevers more (asked n w)

-- what a text writes is asked where it stands behind others
pub asked_read : (nevers : List Never) (n : Never) (text : List ℕ) → Writes text n → IsAsked (nevers ++ n ∷ []) text
asked_read nevers n text w m v = Any-push (Writes text) nevers n w

-- a text that is read as nothing writes nothing
writes_none : (text : List ℕ) (n : Never) → condition_in text ≡ None → are_lost (words text) ≡ false → refusal_in (words text) ≡ None → Writes text n → ⊥
writes_none text (Holds c) none lost refused w = let is : condition_in text ≡ Some c.parts.items = w.0 in absurd (cc)
writes_none text Lost none lost refused w = let is : are_lost (words text) ≡ true = w in absurd (cc)
writes_none text (Refused r) none lost refused w = let is : refusal_in (words text) ≡ Some (r.process, r.error) = w.0 in absurd (cc)

-- of a text that writes nothing anything is asked
pub asked_unread : (nevers : List Never) (text : List ℕ) → condition_in text ≡ None → are_lost (words text) ≡ false → refusal_in (words text) ≡ None
    → IsAsked nevers text
asked_unread nevers text none lost refused n w = absurd (writes_none text n none lost refused w)

-- where nothing is added, nothing stands beside it
pub along_same : {A B : Type 0} (R : A → B → Type 0) (xs more : List A) (ys : List B) → more ≡ [] → Alongside R xs ys → Alongside R (xs ++ more) ys
along_same R xs more ys none along = subst (λ zs. Alongside R zs ys) (sym (ap (λ m. xs ++ m) none ∙ append-nil xs)) along

-- one of each is added
pub along_with : {A B : Type 0} (R : A → B → Type 0) (xs more : List A) (ys news : List B) (x : A) (y : B) → more ≡ x ∷ [] → news ≡ ys ++ y ∷ [] → R x y
    → Alongside R xs ys → Alongside R (xs ++ more) news
along_with R xs more ys news x y one pushed here along =
    subst (λ m. Alongside R (xs ++ m) news) (sym one) (subst (Alongside R (xs ++ x ∷ [])) (sym pushed) (alongside_push R xs ys x y along here))

-- what the words so far and one more add
pub along_next : {A B X : Type 0} (R : A → B → Type 0) (f : X → List A) (before : List A) (words : List X) (i : ℕ) (d x : X) (olds news : List B)
    → i < length words → x ≡ get_or words i d → Alongside R (before ++ flat_map f (take i words)) olds
    → ((front : List A) → Alongside R front olds → Alongside R (front ++ f x) news) → Alongside R (before ++ flat_map f (take (i + 1) words)) news
along_next R f before words i d x olds news within is along adds =
    subst (λ zs. Alongside R zs news) (flat_map-next f before words i x (slice_get-get_or words i d within ∙ ap Some (sym is))) (adds (before ++ flat_map f (take i words)) along)

-- all words, where there are no more
pub along_all : {A B X : Type 0} (R : A → B → Type 0) (f : X → List A) (before : List A) (words : List X) (i : ℕ) (ys : List B) → length words ≤ i
    → Alongside R (before ++ flat_map f (take i words)) ys → Alongside R (before ++ flat_map f words) ys
along_all R f before words i ys done along = subst (λ ws. Alongside R (before ++ flat_map f ws) ys) (take_all i words done) along

-- one more beside the words so far
pub along_map : {A B X : Type 0} (R : A → B → Type 0) (f : X → A) (words : List X) (i : ℕ) (d : X) (olds news : List B) (y : B) → i < length words
    → Alongside R (map f (take i words)) olds → R (f (get_or words i d)) y → news ≡ olds ++ y ∷ [] → Alongside R (map f (take (i + 1) words)) news
along_map R f words i d olds news y within along here pushed =
    let x = get_or words i d in
    let more : map f (take (i + 1) words) ≡ map f (take i words) ++ f x ∷ [] = ap (map f) (take_more words i d within) ∙ map-append f (take i words) (x ∷ []) in
    subst (λ zs. Alongside R zs news) (sym more)
    (subst (Alongside R (map f (take i words) ++ f x ∷ [])) (sym pushed) (alongside_push R (map f (take i words)) olds (f x) y along here))

-- of all these words it stays asked
pub still_asked : {W : Type 0} (P : List W → List ℕ → Type 0) → ((ws more : List W) (text : List ℕ) → P ws text → P (ws ++ more) text)
    → (ws more next : List W) (words : List (Bor (List ℕ))) → next ≡ ws ++ more → All (λ word. P ws word.now) words → All (λ word. P next word.now) words
still_asked P stays ws more next words is all =
    All-weaker (λ word. P ws word.now) (λ word. P next word.now) (λ word asked. subst (λ all. P all word.now) (sym is) (stays ws more word.now asked)) words all

-- of the words so far and one more
pub asked_next : {W : Type 0} (P : List W → List ℕ → Type 0) → ((ws more : List W) (text : List ℕ) → P ws text → P (ws ++ more) text)
    → (ws more next : List W) (words : List (Bor (List ℕ))) (i : ℕ) (d : Bor (List ℕ)) → i < length words → next ≡ ws ++ more
    → All (λ word. P ws word.now) (take i words) → P next (get_or words i d).now → All (λ word. P next word.now) (take (i + 1) words)
asked_next P stays ws more next words i d within is all last =
    All-more (λ word. P next word.now) words i d within (still_asked P stays ws more next (take i words) is all) last

-- all words, where there are no more
pub asked_all : (P : List ℕ → Type 0) (words : List (Bor (List ℕ))) (i : ℕ) → length words ≤ i → All (λ word. P word.now) (take i words) → All (λ word. P word.now) words
asked_all P words i done all = subst (λ (ws : List (Bor (List ℕ))). All (λ word. P word.now) ws) (take_all i words done) all

-- the answers are on what was asked, if they are those that were found
pub asked_by : (q : Question) (asked : Asked) (a found : Answers) → AsksFor q asked → a ≡ found → AreOn asked found → IsAskedBy q a
asked_by q asked a found asks is on = record { asked = asked; asks = asks; answered = subst (AreOn asked) (sym is) on }
