-- Which ends are told.
use Rattle.std.proofs.Common.{ℕ, zero, suc, ◌≡◌, ◌≢◌, Bool, true, false, not, ◌||◌, cond, List, [], ◌∷◌, ◌++◌, Some, slice_get, get_or, map, filter, All, Any, AllPairs, Contains, bytes_eq, refl, sym, true≢false, ap, subst, ◌∙◌, append-nil, arith}
use Rattle.std.specs.List.{list_any}
use Rattle.std.proofs.lemmas.Bool.{not-false, not-true}
use Rattle.std.proofs.lemmas.Option.{slice_get_within, slice_get-get_or, get_or_from_slice_get}
use Rattle.std.proofs.lemmas.Slice.Eq.{bytes_eq-Decides}
use Rattle.std.proofs.lemmas.List.Elements.{All-cons, All-head, All-tail, All-filter, All-weaker, All-contains_itself, filter-append, filter_passes}
use Rattle.std.proofs.lemmas.List.Kept.{AllPairs-cons, AllPairs-filter}
use Rattle.std.proofs.lemmas.Map.Views.{any-filter_same}
use Rattle.lab_worlds.specs.declared.ends.End.{End}
use Rattle.lab_questions.specs.declared.asked.Show.{Show}
use Rattle.lab_questions.specs.EndTexts.{text_of, has_other_text, told_ends}
use Rattle.lab_questions.specs.Laws.{EachToldOnce}

-- an element of a list, by its place
abbrev pub Has : List End → End → Type 0
Has es e = (i : ℕ) × (slice_get es i ≡ Some e)

pub any_of : (P : End → Type 0) (es : List End) (t : End) → Has es t → P t → Any P es
any_of P es t h is = (h.0, t, slice_get_within es h.0 t h.1, get_or_from_slice_get es h.0 t t h.1, is)

-- a test of what is made of each element
pub any-map : {X Y : Type 0} (f : X → Y) (test : Y → Bool) (xs : List X) → list_any test (map f xs) ≡ list_any (λ x. test (f x)) xs
any-map f test [] = refl
any-map f test (x ∷ xs) = ap (λ r. test (f x) || r) (any-map f test xs)

module _ (show : Show) where
  -- an end that hasn't another text has the text
  same_text : (e f : End) → has_other_text show e f ≡ false → text_of show e ≡ text_of show f
  same_text e f h = (bytes_eq-Decides (text_of show e) (text_of show f)).0 (not-false _ h)

  other_text : (e f : End) → has_other_text show e f ≡ true → text_of show e ≢ text_of show f
  other_text e f h same = true≢false (sym ((bytes_eq-Decides (text_of show e) (text_of show f)).1 same) ∙ not-true _ h)

  -- what passes a test is kept
  has_filter : (p : End → Bool) (es : List End) (e : End) → Has es e → p e ≡ true → Has (filter p es) e
  has_filter p [] e h pass = absurd (cc (h.1))
  has_filter p (x ∷ xs) e (zero, at) pass =
      let is : x ≡ e = cc in
      let here : p x ≡ true = ap p is ∙ pass in
      rw here (zero, at)
  has_filter p (x ∷ xs) e (suc i, at) pass = by (p x) (has_filter p xs e (i, at) pass)
    where
      by : (b : Bool) → Has (filter p xs) e → Has (cond b (x ∷ filter p xs) (filter p xs)) e
      by true h = (suc h.0, h.1)
      by false h = h

  -- each end has the text of one that is told and that R holds of and it, where R holds of each end and the later ones
  pub told_some : (R : End → End → Type 0) → ((e : End) → R e e) → (es : List End) (e : End) → AllPairs R es → Has es e
      → (t : End) × Has (told_ends show es) t × (text_of show t ≡ text_of show e) × R t e
  unfolding told_ends
  told_some R itself [] e pairs h = absurd (cc (h.1))
  told_some R itself (x ∷ xs) e pairs (zero, at) = let is : x ≡ e = cc in (x, (zero, refl), ap (text_of show) is, subst (R x) is (itself x))
  told_some R itself (x ∷ xs) e pairs (suc i, at) =
      let later = told_some R itself xs e (λ a b d h k. pairs (suc a) (suc b) d (omega arith) (omega arith)) (i, at) in
      let within = slice_get_within xs i e at in
      let first : R x e = subst (R x) (get_or_from_slice_get xs i e e at) (pairs zero (suc i) e (omega arith) (omega arith)) in
      by first later.0 later.1 later.2 later.3 (has_other_text show x later.0) refl
    where
      by : R x e → (t : End) → Has (told_ends show xs) t → text_of show t ≡ text_of show e → R t e → (b : Bool) → has_other_text show x t ≡ b
          → (t : End) × Has (told_ends show (x ∷ xs)) t × (text_of show t ≡ text_of show e) × R t e
      by first t has same holds true other = let kept = has_filter (has_other_text show x) (told_ends show xs) t has other in (t, (suc kept.0, kept.1), same, holds)
      by first t has same holds false one = (x, (zero, refl), same_text x t one ∙ same, first)

  -- what holds of all ends holds of those that are told
  pub told_all : (P : End → Type 0) (es : List End) → All P es → All P (told_ends show es)
  unfolding told_ends
  told_all P [] h = h
  told_all P (x ∷ xs) h =
      All-cons P x (filter (has_other_text show x) (told_ends show xs)) (All-head P x xs h)
      (All-filter (has_other_text show x) P (told_ends show xs) (told_all P xs (All-tail P x xs h)))

  -- no two have one text
  abbrev Differ : End → End → Type 0
  Differ s t = text_of show s ≢ text_of show t

  told_differ : (es : List End) → AllPairs Differ (told_ends show es)
  unfolding told_ends
  told_differ [] = λ i j d h k. absurd (omega arith)
  told_differ (x ∷ xs) =
      let others = filter (has_other_text show x) (told_ends show xs) in
      AllPairs-cons Differ x others
      (All-weaker (λ t. has_other_text show x t ≡ true) (Differ x) (other_text x) others (filter_passes (has_other_text show x) (told_ends show xs)))
      (AllPairs-filter Differ (has_other_text show x) (told_ends show xs) (told_differ xs))

  -- whether an end has the text of another
  abbrev has_text : End → End → Bool
  has_text e t = bytes_eq (text_of show t) (text_of show e)

  -- an end is new where no other that is told has its text
  abbrev new_end : Bool → End → List End
  new_end true e = []
  new_end false e = e ∷ []

  -- one end more
  told-push : (es : List End) (e : End) → told_ends show (es ++ e ∷ []) ≡ told_ends show es ++ new_end (list_any (has_text e) (told_ends show es)) e
  unfolding told_ends
  told-push [] e = refl
  told-push (x ∷ xs) e =
      let known = list_any (has_text e) (told_ends show xs) in
      ap (λ l. x ∷ filter (has_other_text show x) l) (told-push xs e)
      ∙ ap (λ l. x ∷ l) (filter-append (has_other_text show x) (told_ends show xs) (new_end known e))
      ∙ ap (λ l. x ∷ (filter (has_other_text show x) (told_ends show xs) ++ l)) (by known (has_text e x) refl)
    where
      others : List End
      others = filter (has_other_text show x) (told_ends show xs)

      keeps : has_text e x ≡ false → (t : End) → has_text e t ≡ true → has_other_text show x t ≡ true
      keeps differs t is =
          let same : text_of show t ≡ text_of show e = (bytes_eq-Decides (text_of show t) (text_of show e)).0 is in
          ap (λ r. not (bytes_eq (text_of show x) r)) same ∙ ap not differs

      alone : (b : Bool) → has_other_text show x e ≡ false → filter (has_other_text show x) (new_end b e) ≡ []
      alone true h = refl
      alone false h = rw h refl

      kept : (b : Bool) → has_other_text show x e ≡ true → filter (has_other_text show x) (new_end b e) ≡ new_end b e
      kept true h = refl
      kept false h = rw h refl

      by : (known : Bool) (b : Bool) → has_text e x ≡ b
          → filter (has_other_text show x) (new_end (list_any (has_text e) (told_ends show xs)) e) ≡ new_end (has_text e x || list_any (has_text e) others) e
      by known true is =
          alone (list_any (has_text e) (told_ends show xs)) (ap not is) ∙ ap (λ b. new_end (b || list_any (has_text e) others) e) (sym is)
      by known false is =
          kept (list_any (has_text e) (told_ends show xs)) (ap not is)
          ∙ ap (λ b. new_end b e) (sym (any-filter_same (has_text e) (has_other_text show x) true (keeps is) (told_ends show xs)))
          ∙ ap (λ b. new_end (b || list_any (has_text e) others) e) (sym is)

  pub told-known : (es : List End) (e : End) → list_any (λ r. bytes_eq r (text_of show e)) (map (text_of show) (told_ends show es)) ≡ true
      → told_ends show (es ++ e ∷ []) ≡ told_ends show es
  told-known es e h =
      told-push es e
      ∙ ap (λ b. told_ends show es ++ new_end b e) (sym (any-map (text_of show) (λ r. bytes_eq r (text_of show e)) (told_ends show es)) ∙ h)
      ∙ append-nil (told_ends show es)

  pub told-new : (es : List End) (e : End) → list_any (λ r. bytes_eq r (text_of show e)) (map (text_of show) (told_ends show es)) ≡ false
      → told_ends show (es ++ e ∷ []) ≡ told_ends show es ++ e ∷ []
  told-new es e h =
      told-push es e
      ∙ ap (λ b. told_ends show es ++ new_end b e) (sym (any-map (text_of show) (λ r. bytes_eq r (text_of show e)) (told_ends show es)) ∙ h)

pub each_told_once : EachToldOnce
each_told_once show es = record {
  each = λ i d within.
      let some = told_some show (λ s t. Unit {0}) (λ e. tt) es (get_or es i d) (λ j k x h l. tt) (i, slice_get-get_or es i d within) in
      any_of (λ t. text_of show t ≡ text_of show (get_or es i d)) (told_ends show es) some.0 some.1 some.2;
  once = told_differ show es;
  only = told_all show (Contains es) es (All-contains_itself es);
}
