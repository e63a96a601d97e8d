-- Answers so far, and the questions that are left.
use Rattle.std.proofs.Common.{ℕ, suc, ◌≡◌, ◌+◌, List, [], ◌∷◌, ◌++◌, All, Option, Some, None, Bool, IsTrue, get_or, length, map, refl, sym, ap, subst, ◌∙◌, append_assoc, append-nil, arith, MatchOption}
use Rattle.std.specs.Option.{option_to_list}
use Rattle.std.proofs.lemmas.List.{map-append}
use Rattle.lab_sched.specs.declared.schedule.Block.{Block}
use Rattle.lab_sched.specs.Worlds.{WorldState}
use Rattle.lab_conditions.specs.declared.never.Never.{Never as Condition}
use Rattle.lab_worlds.specs.Calls.{Alongside}
use Rattle.lab_worlds.specs.Reached.{Violates, ViolatesIfSome, KeptIfNone}
use Rattle.lab_questions.specs.declared.answers.Answer.{Answer}
use Rattle.lab_questions.specs.declared.answers.Found.{Found}
use Rattle.lab_questions.specs.declared.answers.Found.TheVariants.{Holds, Unknown, FailsAt, Fails}
use Rattle.lab_questions.specs.declared.asked.Question.{Question}
use Rattle.lab_questions.specs.declared.asked.Question.TheVariants.{Require, Never, Calls}
use Rattle.lab_questions.specs.declared.asked.Waiter.{Waiter}
use Rattle.lab_worlds.specs.declared.exploration.Exploration.{Exploration}
use Rattle.lab_questions.specs.Answered.{IsFound, IsAnswer}
use Rattle.lab_questions.specs.Private.Founds.{AreShown, IsConditionFound, IsConditionOf, IsConditionAnswer, IsCallOf, IsCallAnswer}

-- one question less is left
pub asked_next : {X : Type 0} (f : X → Question) (olds news : List Answer) (a : Answer) (x : X) (before rest all : List X)
    → map (λ a. a.question) olds ++ map f before ≡ map f all → before ≡ x ∷ rest → news ≡ olds ++ a ∷ [] → a.question ≡ f x
    → map (λ a. a.question) news ++ map f rest ≡ map f all
asked_next f olds news a x before rest all so_far is pushed asks =
    let q : Answer → Question = λ a. a.question in
    ap (λ l. map q l ++ map f rest) pushed ∙ ap (λ l. l ++ map f rest) (map-append q olds (a ∷ []))
    ∙ append_assoc (map q olds) (a.question ∷ []) (map f rest) ∙ ap (λ y. map q olds ++ y ∷ map f rest) asks
    ∙ ap (λ l. map q olds ++ map f l) (sym is) ∙ so_far

nothing_left : {X : Type 0} (l : List X) → length l ≡ 0 → l ≡ []
nothing_left [] h = refl
nothing_left (x ∷ xs) h = absurd (omega arith)

-- none is left
pub asked_all : {X : Type 0} (f : X → Question) (answers : List Answer) (rest all : List X)
    → map (λ a. a.question) answers ++ map f rest ≡ map f all → length rest ≡ 0 → map (λ a. a.question) answers ≡ map f all
asked_all f answers rest all so_far none =
    sym (append-nil (map (λ a. a.question) answers)) ∙ ap (λ l. map (λ a. a.question) answers ++ map f l) (sym (nothing_left rest none)) ∙ so_far

-- what a whole search shows of conditions
pub are_shown : (start : WorldState) (complete : Bool) (ns : List Condition) (shown : List (Option (List Block)))
    → Alongside (ViolatesIfSome start) ns shown → (IsTrue complete → Alongside (KeptIfNone start) ns shown) → AreShown start complete ns shown
are_shown start complete [] shown violates keeps = tt
are_shown start complete (n ∷ ns) [] violates keeps = tt
are_shown start complete (n ∷ ns) (s ∷ shown) violates keeps =
    ((violates 0, λ c. keeps c 0), are_shown start complete ns shown (λ p. violates (suc p)) (λ c p. keeps c (suc p)))

-- nothing is shown
pub none_shown : (start : WorldState) (complete : Bool) (ns : List Condition) → AreShown start complete ns []
none_shown start complete [] = tt
none_shown start complete (n ∷ ns) = tt

inner : Option (Option (List Block)) → List Block
inner None = []
inner (Some None) = []
inner (Some (Some s)) = s

-- what is found of a condition of which this is shown
is_found : (start : WorldState) (complete : Bool) (n : Condition) (s : Option (List Block)) (f : Found) → IsConditionFound (Some s) complete f
    → ViolatesIfSome start n s → (IsTrue complete → KeptIfNone start n s) → IsConditionOf start complete (Never n) f
unfolding inner
is_found start complete n None Holds found violates keeps = keeps found.1
is_found start complete n (Some s) Holds found violates keeps = absurd (let no = found.0 in cc)
is_found start complete n s Unknown found violates keeps = found
is_found start complete n s (FailsAt i) found violates keeps = found
is_found start complete n None (Fails t) found violates keeps = absurd (cc)
is_found start complete n (Some s) (Fails t) found violates keeps = subst (Violates start n) (ap inner found) violates

-- the same where nothing is shown
is_open : (start : WorldState) (complete : Bool) (n : Condition) (f : Found) → IsConditionFound None complete f → IsConditionOf start complete (Never n) f
is_open start complete n Holds found = absurd (let no = found.0 in cc)
is_open start complete n Unknown found = found
is_open start complete n (FailsAt i) found = found
is_open start complete n (Fails t) found = absurd (cc)

-- one condition more is answered by what is shown next
pub shown_next : (start : WorldState) (complete : Bool) (n : Condition) (ns : List Condition) (o : Option (Option (List Block))) (olds news : List (Option (List Block)))
    (had has : ℕ) (f : Found)
    → MatchOption o ((had ≡ 0) × (has ≡ 0)) (λ x. (olds ≡ x ∷ news) × (has + 1 ≡ had)) → olds ≡ option_to_list o ++ news → had ≡ length olds
    → IsConditionFound o complete f → AreShown start complete (n ∷ ns) olds → AreShown start complete ns news × IsConditionOf start complete (Never n) f
shown_next start complete n ns None olds news had has f steps items long found shown =
    let none : news ≡ [] = nothing_left news (ap length (sym items) ∙ sym long ∙ steps.0) in
    (subst (AreShown start complete ns) (sym none) (none_shown start complete ns), is_open start complete n f found)
shown_next start complete n ns (Some x) olds news had has f steps items long found shown =
    let parts = subst (AreShown start complete (n ∷ ns)) steps.0 shown in
    (parts.1, is_found start complete n x f found parts.0.0 parts.0.1)

-- as many are left as the length says
pub length_next : (o : Option (Option (List Block))) (olds news : List (Option (List Block))) (had has : ℕ)
    → MatchOption o ((had ≡ 0) × (has ≡ 0)) (λ x. (olds ≡ x ∷ news) × (has + 1 ≡ had)) → olds ≡ option_to_list o ++ news → had ≡ length olds → has ≡ length news
length_next None olds news had has steps items long = steps.1 ∙ sym (ap length (sym items) ∙ sym long ∙ steps.0)
length_next (Some x) olds news had has steps items long =
    let short = ap length items in
    let one = steps.1 in
    omega arith

module _ (start : WorldState) (waiters : List Waiter) (e : Exploration) where
  condition_found : (q : Question) (f : Found) → IsConditionOf start e.complete q f → IsFound start waiters e q f
  condition_found (Require word) f is = absurd is
  condition_found (Calls word) f is = absurd is
  condition_found (Never n) Holds is = is
  condition_found (Never n) Unknown is = is
  condition_found (Never n) (FailsAt i) is = is
  condition_found (Never n) (Fails s) is = is

  call_found : (q : Question) (f : Found) → IsCallOf start q f → IsFound start waiters e q f
  call_found (Require word) f is = absurd is
  call_found (Never n) f is = absurd is
  call_found (Calls word) Holds is = is
  call_found (Calls word) Unknown is = is
  call_found (Calls word) (FailsAt i) is = is
  call_found (Calls word) (Fails s) is = is

  -- what is answered of conditions is so
  pub conditions_so : (answers : List Answer) → All (IsConditionAnswer start e.complete) answers → All (IsAnswer start waiters e) answers
  conditions_so answers each k d within = let a = get_or answers k d in condition_found a.question a.found (each k d within)

  -- what is answered of calls is so
  pub calls_so : (answers : List Answer) → All (IsCallAnswer start) answers → All (IsAnswer start waiters e) answers
  calls_so answers each k d within = let a = get_or answers k d in call_found a.question a.found (each k d within)
