-- Texts in order are one list, whatever their order was before.
use Rattle.std.proofs.Common.{ℕ, ◌≡◌, ◌≤◌, ◌+◌, Bool, true, false, cond, List, [], ◌∷◌, sum_by, bytes_eq, refl, sym, ap, subst, ◌∙◌, arith, nat_cmp, is_lt, is_eq, Ordering, Less, Equal, Greater, true≢false}
use Rattle.std.specs.Cmp.{IsStrictWeakOrder}
use Rattle.std.specs.Cmp.Lexicographic.{slice_cmp, texts_ties, same_text}
use Rattle.std.specs.Ordering.{ordering_reverse}
use Rattle.std.specs.List.{AllByRecursion}
use Rattle.std.proofs.lemmas.Cmp.{nat_list_cmp_total}
use Rattle.std.proofs.lemmas.List.Sums.{sum_by-cons}
use Rattle.std.proofs.lemmas.List.Sorted.{ranks_by}
use Rattle.std.proofs.lemmas.Slice.Eq.{bytes_eq-Decides}
use Rattle.lab_questions.specs.Orders.{comes_before}

order : IsStrictWeakOrder comes_before
order = ranks_by nat_list_cmp_total (λ t. t)

-- of two texts one comes before the other, or they are the same
same : (t u : List ℕ) → comes_before t u ≡ false → comes_before u t ≡ false → t ≡ u
same t u h k = by (slice_cmp nat_cmp t u) (slice_cmp nat_cmp u t) refl refl (nat_list_cmp_total.antisymm t u)
  where
    by : (a b : Ordering) → slice_cmp nat_cmp t u ≡ a → slice_cmp nat_cmp u t ≡ b → slice_cmp nat_cmp t u ≡ ordering_reverse (slice_cmp nat_cmp u t) → t ≡ u
    by Less b at back flip = absurd (true≢false (sym (ap is_lt at) ∙ h))
    by Equal b at back flip = same_text t u (sym (texts_ties t u ∙ ap is_eq at))
    by Greater Less at back flip = absurd (true≢false (sym (ap is_lt back) ∙ k))
    by Greater Equal at back flip = absurd (true≢false (sym (ap is_eq (flip ∙ ap ordering_reverse back)) ∙ ap is_eq at))
    by Greater Greater at back flip = absurd (true≢false (sym (ap is_lt (flip ∙ ap ordering_reverse back)) ∙ h))

-- no text comes before one that stands before it
abbrev pub Rises : List (List ℕ) → Type 0
Rises [] = Unit {0}
Rises (t ∷ ts) = AllByRecursion (λ u. comes_before u t ≡ false) ts × Rises ts

-- how often a text is there
abbrev pub one_if : List ℕ → List ℕ → ℕ
one_if t u = cond (bytes_eq t u) 1 0

abbrev pub how_often : List ℕ → List (List ℕ) → ℕ
how_often t ts = sum_by (one_if t) ts

pub one_more : (s t : List ℕ) (ts : List (List ℕ)) → how_often s (t ∷ ts) ≡ one_if s t + how_often s ts
one_more s t ts = sum_by-cons (one_if s) t ts

it_is : (t : List ℕ) → one_if t t ≡ 1
it_is t = ap (λ b. cond b 1 0) ((bytes_eq-Decides t t).1 refl)

-- what is there has what all have
found : (P : List ℕ → Type 0) (s : List ℕ) (ts : List (List ℕ)) → AllByRecursion P ts → 1 ≤ how_often s ts → P s
found P s [] all some = absurd (omega (arith, some))
found P s (t ∷ ts) all some = by (found P s ts all.1) (bytes_eq s t) refl
  where
    by : (1 ≤ how_often s ts → P s) → (b : Bool) → bytes_eq s t ≡ b → P s
    by later true is = subst P (sym ((bytes_eq-Decides s t).0 is)) all.0
    by later false is =
        let none : one_if s t ≡ 0 = ap (λ b. cond b 1 0) is in
        let more = one_more s t ts in
        later (omega (arith, some, none, more))

-- texts in order, each as often in both lists, are the same
pub one_order : (ts us : List (List ℕ)) → Rises ts → Rises us → ((s : List ℕ) → how_often s ts ≡ how_often s us) → ts ≡ us
one_order [] [] a b count = refl
one_order [] (u ∷ us) a b count = absurd (let it = it_is u in let more = one_more u u us in let c = count u in omega (arith, it, more, c))
one_order (t ∷ ts) [] a b count = absurd (let it = it_is t in let more = one_more t t ts in let c = count t in omega (arith, it, more, c))
one_order (t ∷ ts) (u ∷ us) a b count =
    let is : t ≡ u = first (bytes_eq t u) refl in
    ap (λ x. x ∷ ts) is ∙ ap (λ xs. u ∷ xs) (one_order ts us a.1 b.1 (λ s.
    let here = one_more s t ts in
    let there = one_more s u us in
    let each : one_if s t ≡ one_if s u = ap (one_if s) is in
    let c = count s in
    omega (arith, here, there, each, c)))
  where
    first : (b : Bool) → bytes_eq t u ≡ b → t ≡ u
    first true is = (bytes_eq-Decides t u).0 is
    first false is =
        let other : one_if t u ≡ 0 = ap (λ b. cond b 1 0) is in
        let back : one_if u t ≡ 0 = differ (bytes_eq u t) refl in
        let t_here = one_more t t ts in
        let t_there = one_more t u us in
        let u_here = one_more u t ts in
        let u_there = one_more u u us in
        let it = it_is t in
        let its = it_is u in
        let c = count t in
        let d = count u in
        same t u (found (λ x. comes_before x u ≡ false) t us b.0 (omega (arith, other, t_here, t_there, it, c)))
        (found (λ x. comes_before x t ≡ false) u ts a.0 (omega (arith, back, u_here, u_there, its, d)))
      where
        differ : (c : Bool) → bytes_eq u t ≡ c → one_if u t ≡ 0
        differ true so = absurd (true≢false (sym ((bytes_eq-Decides t u).1 (sym ((bytes_eq-Decides u t).0 so))) ∙ is))
        differ false not = ap (λ b. cond b 1 0) not

-- the text among others that are in order: before the first that it comes before
abbrev pub put_among : List ℕ → List (List ℕ) → List (List ℕ)
put_among t [] = t ∷ []
put_among t (u ∷ us) = cond (comes_before t u) (t ∷ u ∷ us) (u ∷ put_among t us)

-- how often a text is there then
pub put_count : (s t : List ℕ) (us : List (List ℕ)) → how_often s (put_among t us) ≡ one_if s t + how_often s us
put_count s t [] = one_more s t []
put_count s t (u ∷ us) = by (put_count s t us) (comes_before t u)
  where
    by : how_often s (put_among t us) ≡ one_if s t + how_often s us → (b : Bool) → how_often s (cond b (t ∷ u ∷ us) (u ∷ put_among t us)) ≡ one_if s t + how_often s (u ∷ us)
    by rest true = one_more s t (u ∷ us)
    by rest false =
        let more = one_more s u us in
        let all = one_more s u (put_among t us) in
        omega (arith, rest, more, all)

put_all : (P : List ℕ → Type 0) (t : List ℕ) (us : List (List ℕ)) → P t → AllByRecursion P us → AllByRecursion P (put_among t us)
put_all P t [] here all = (here, tt)
put_all P t (u ∷ us) here all = by (put_all P t us here all.1) (comes_before t u)
  where
    by : AllByRecursion P (put_among t us) → (b : Bool) → AllByRecursion P (cond b (t ∷ u ∷ us) (u ∷ put_among t us))
    by later true = (here, all)
    by later false = (all.0, later)

all_weaker : (P Q : List ℕ → Type 0) → ((x : List ℕ) → P x → Q x) → (us : List (List ℕ)) → AllByRecursion P us → AllByRecursion Q us
all_weaker P Q weaker [] all = tt
all_weaker P Q weaker (u ∷ us) all = (weaker u all.0, all_weaker P Q weaker us all.1)

-- the texts are still in order
pub put_rises : (t : List ℕ) (us : List (List ℕ)) → Rises us → Rises (put_among t us)
put_rises t [] h = (tt, tt)
put_rises t (u ∷ us) h = by (put_rises t us h.1) (comes_before t u) refl
  where
    by : Rises (put_among t us) → (b : Bool) → comes_before t u ≡ b → Rises (cond b (t ∷ u ∷ us) (u ∷ put_among t us))
    by later true is =
        let behind = order.one_way t u is in
        ((behind, all_weaker (λ x. comes_before x u ≡ false) (λ x. comes_before x t ≡ false) (λ x not. order.chain x u t not behind) us h.0), h)
    by later false is = (put_all (λ x. comes_before x u ≡ false) t us is h.0, later)
