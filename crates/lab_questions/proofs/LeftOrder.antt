-- Places in the order of the lines of their messages.
use Rattle.std.proofs.Common.{ℕ, zero, suc, ◌≡◌, ◌+◌, ◌==◌, Bool, true, false, not, cond, nat_lt, Option, Some, None, List, [], ◌∷◌, insert, length, map, position, string_bytes, unwrap_or, refl, sym, ap, ◌∙◌, arith}
use Rattle.std.specs.List.{position_or_len}
use Rattle.std.proofs.lemmas.Bool.Decides.{nat_tests}
use Rattle.std.proofs.lemmas.List.Sums.{prefix_len-le-length}
use Rattle.ipc_kernel.specs.declared.place.Place.{Place}
use Rattle.ipc_kernel.specs.declared.place.Place.TheVariants.{Empty, Mq, Sem}
use Rattle.ipc_kernel.specs.Kernel.{KernelState}
use Rattle.ipc_kernel.specs.Places.{place_at, queue_and_name}
use Rattle.ipc_objects.specs.Queue.{QueueState}
use Rattle.lab_questions.specs.declared.left.Left.{Left}
use Rattle.lab_questions.specs.Left.{is_text, left_lines, left_places, put_left, put_place}
use Rattle.lab_questions.specs.Orders.{comes_before}
use Rattle.lab_questions.specs.Private.Lefts.{place_for, place_of, AreLeft}

-- a text is one unless its length is 0
pub text_is : (text : List ℕ) → (length text == 0) ≡ not (is_text text)
text_is [] = refl
text_is (c ∷ cs) = grind (arith, nat_tests)

-- what is made of a list into which an element is put
map-insert : {X Y : Type 0} (f : X → Y) (xs : List X) (i : ℕ) (x : X) → map f (insert xs i x) ≡ insert (map f xs) i (f x)
map-insert f [] zero x = refl
map-insert f [] (suc i) x = refl
map-insert f (y ∷ ys) zero x = refl
map-insert f (y ∷ ys) (suc i) x = ap (λ zs. f y ∷ zs) (map-insert f ys i x)

first-of : {X : Type 0} (test : X → Bool) (xs : List X) → unwrap_or (position test xs) (length xs) ≡ position_or_len test xs
first-of test xs = by (nat_lt (position_or_len test xs) (length xs)) refl
  where
    by : (b : Bool) → nat_lt (position_or_len test xs) (length xs) ≡ b → unwrap_or (cond b (Some (position_or_len test xs)) None) (length xs) ≡ position_or_len test xs
    by true is = refl
    by false is =
        let within = prefix_len-le-length (λ x. not (test x)) xs in
        grind (arith, nat_tests)

first-map : {X Y : Type 0} (f : X → Y) (test : Y → Bool) (xs : List X) → position_or_len (λ x. test (f x)) xs ≡ position_or_len test (map f xs)
first-map f test [] = refl
first-map f test (x ∷ xs) = ap (λ n. cond (not (test (f x))) (1 + n) 0) (first-map f test xs)

-- the place that was found
pub found-for : (lines : List ℕ) (lefts : List Left)
    → unwrap_or (position (λ l. comes_before lines (string_bytes l.lines)) lefts) (length lefts) ≡ place_for lines (map (λ l. string_bytes l.lines) lefts)
found-for lines lefts = first-of (λ l. comes_before lines (string_bytes l.lines)) lefts ∙ first-map (λ l. string_bytes l.lines) (comes_before lines) lefts

-- the place is put where it stands before the first whose lines its own come before
put-is : (p : Place) (ps : List Place) → put_place p ps ≡ insert ps (place_for (left_lines p) (map left_lines ps)) p
put-is p [] = refl
put-is p (q ∷ qs) = by (comes_before (left_lines p) (left_lines q)) (put-is p qs)
  where
    by : (b : Bool) → put_place p qs ≡ insert qs (place_for (left_lines p) (map left_lines qs)) p
        → cond b (p ∷ q ∷ qs) (q ∷ put_place p qs) ≡ insert (q ∷ qs) (cond (not b) (1 + place_for (left_lines p) (map left_lines qs)) 0) p
    by true rest = refl
    by false rest =
        let n = place_for (left_lines p) (map left_lines qs) in
        let more : suc n ≡ 1 + n = omega arith in
        ap (λ zs. q ∷ zs) rest ∙ ap (λ i. insert (q ∷ qs) i p) more

-- a place without a queue has no lines
pub no-lines : (p : Place) → queue_and_name p ≡ None → is_text (left_lines p) ≡ false
no-lines Empty none = refl
no-lines (Mq name queue) none = absurd (cc)
no-lines (Sem name value) none = refl

-- a place with a queue is no other
pub queue-is : (p : Place) (name : Option (List ℕ)) (queue : QueueState) → queue_and_name p ≡ Some (name, queue) → Mq name queue ≡ p
queue-is Empty name queue is = absurd (cc)
queue-is (Mq other held) name queue is =
    let both : ◌≡◌ {A = Option (List ℕ) × QueueState} (other, held) (name, queue) = cc in
    ap (λ (r : Option (List ℕ) × QueueState). Mq r.0 r.1) (sym both)
queue-is (Sem other value) name queue is = absurd (cc)

-- at first there is none
pub lefts-none : (k : KernelState) → AreLeft k 0 []
unfolding left_places
lefts-none k = record { places = refl; lines = refl }

next-places : (k : KernelState) (n : ℕ) → put_left (place_at k.places n) (left_places n k) ≡ left_places (n + 1) k
unfolding left_places
next-places k n = let same : suc n ≡ n + 1 = omega arith in ap (λ m. left_places m k) same

-- where no messages are left in a place, the others stay
pub lefts-same : (k : KernelState) (n : ℕ) (lefts : List Left) → is_text (left_lines (place_at k.places n)) ≡ false → AreLeft k n lefts → AreLeft k (n + 1) lefts
lefts-same k n lefts none these =
    let same : left_places n k ≡ left_places (n + 1) k =
    sym (ap (λ b. cond b (put_place (place_at k.places n) (left_places n k)) (left_places n k)) none) ∙ next-places k n in
    record { places = these.places ∙ same; lines = these.lines ∙ ap (map left_lines) same }

-- where some are, it is put among them
pub lefts-more : (k : KernelState) (n : ℕ) (olds : List Left) (i : ℕ) (left : Left) → string_bytes left.lines ≡ left_lines (place_at k.places n) → place_of left ≡ place_at k.places n
    → is_text (left_lines (place_at k.places n)) ≡ true → i ≡ place_for (string_bytes left.lines) (map (λ l. string_bytes l.lines) olds)
    → AreLeft k n olds → AreLeft k (n + 1) (insert olds i left)
lefts-more k n olds i left lines place some for these =
    let p = place_at k.places n in
    let ps = left_places n k in
    let told : Left → List ℕ = λ l. string_bytes l.lines in
    let at : i ≡ place_for (left_lines p) (map left_lines ps) = for ∙ ap (λ t. place_for t (map told olds)) lines ∙ ap (place_for (left_lines p)) these.lines in
    let put : insert ps i p ≡ left_places (n + 1) k =
    ap (λ j. insert ps j p) at ∙ sym (put-is p ps) ∙ sym (ap (λ b. cond b (put_place p ps) ps) some) ∙ next-places k n in
    record {
      places = map-insert place_of olds i left ∙ ap (λ qs. insert qs i (place_of left)) these.places ∙ ap (insert ps i) place ∙ put;
      lines = map-insert told olds i left ∙ ap (λ ts. insert ts i (told left)) these.lines ∙ ap (λ t. insert (map left_lines ps) i t) lines
          ∙ sym (map-insert left_lines ps i p) ∙ ap (map left_lines) put;
    }
