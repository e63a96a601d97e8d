-- Pages that stand among words: one that is read, written, or made.
use Rattle.std.proofs.Common.{◌≡◌, ◌≢◌, ◌⊎◌, ℕ, zero, suc, [], ◌∷◌, ◌+◌, ◌-◌, ◌<◌, ◌≤◌, Bool, true, false, List, ◌++◌, length, take, drop, get_or, set, map, replicate, nat_lt, inl, inr, refl, sym, ap, ◌∙◌, arith, length-append, length-take-le, get_or-take, rules}
use Rattle.std.proofs.lemmas.Bool.{cases_eq}
use Rattle.std.proofs.lemmas.Bool.Decides.{nat_tests}
use Rattle.std.proofs.lemmas.List.{ext_get_or, get_or-drop, get_or-set_same, get_or-set_other, get_or-map, get_or-replicate, get_or_append_left, get_or-append-add, take_all, length-drop, length-map, length-replicate, length-set, map-set}
use Rattle.std.proofs.lemmas.List.Elements.{All-replicate, All-same, All-set}
use Rattle.lc3_machine.specs.Process.{zeros}
use Rattle.lc3_machine.specs.Private.Pages.{PageWords, AreWhole, ArePages, IsStart, absent_page, page_at, pages_at, page_made, page_written}
use Rattle.lc3_machine.proofs.MemoryLemmas.{length-zeros}
use Rattle.std.proofs.lemmas.Grind.{common_steps}

-- a word of a page
window-get : (ws : List ℕ) (s k : ℕ) → k < 256 → get_or (take 256 (drop s ws)) k 0 ≡ get_or ws (s + k) 0
window-get ws s k h = get_or-take 256 (drop s ws) k 0 h ∙ get_or-drop s ws k 0

-- a page has 256 words
window-length : (ws : List ℕ) (s : ℕ) → s + 256 ≤ length ws → length (take 256 (drop s ws)) ≡ 256
window-length ws s h = length-take-le 256 (drop s ws) (omega (arith, length-drop s ws))

-- two pages of the same words
same-window : (ws vs : List ℕ) (s t : ℕ) → s + 256 ≤ length ws → t + 256 ≤ length vs → ((k : ℕ) → k < 256 → get_or ws (s + k) 0 ≡ get_or vs (t + k) 0) → take 256 (drop s ws) ≡ take 256 (drop t vs)
same-window ws vs s t h h' same =
    ext_get_or 0 (take 256 (drop s ws)) (take 256 (drop t vs)) (window-length ws s h ∙ sym (window-length vs t h'))
    (λ k below.
    let few : k < 256 = omega (arith, window-length ws s h) in
    window-get ws s k few ∙ same k few ∙ sym (window-get vs t k few))

-- a page stays where a word outside it is written
window-other : (ws : List ℕ) (t p w : ℕ) → t + 256 ≤ length ws → ((k : ℕ) → k < 256 → (t + k) ≢ p) → take 256 (drop t (set ws p w)) ≡ take 256 (drop t ws)
window-other ws t p w h apart = search (rules, same-window, length-set, get_or-set_other)

-- a word of a page is written
window-set : (ws : List ℕ) (s k w : ℕ) → s + 256 ≤ length ws → k < 256 → take 256 (drop s (set ws (s + k) w)) ≡ set (take 256 (drop s ws)) k w
window-set ws s k w h below =
    let old = take 256 (drop s ws) in
    ext_get_or 0 (take 256 (drop s (set ws (s + k) w))) (set (take 256 (drop s ws)) k w)
    (window-length (set ws (s + k) w) s (omega (arith, length-set ws (s + k) w)) ∙ sym (length-set (take 256 (drop s ws)) k w ∙ window-length ws s h))
    (λ j inside.
    let few : j < 256 = omega (arith, window-length (set ws (s + k) w) s (omega (arith, length-set ws (s + k) w))) in
    window-get (set ws (s + k) w) s j few ∙ read j few)
  where
    read : (j : ℕ) → j < 256 → get_or (set ws (s + k) w) (s + j) 0 ≡ get_or (set (take 256 (drop s ws)) k w) j 0
    read j few = elim (cases_eq j k) [
      | inl same ↦ (
          let here : s + j ≡ s + k = omega (arith, same) in
          ap (λ i. get_or (set ws (s + k) w) i 0) here ∙ get_or-set_same ws (s + k) w 0 (omega (arith, h, below))
          ∙ sym (ap (λ i. get_or (set (take 256 (drop s ws)) k w) i 0) same ∙ get_or-set_same (take 256 (drop s ws)) k w 0 (omega (arith, window-length ws s h, below)))
          )
      | inr other ↦ (
          get_or-set_other ws (s + k) (s + j) w 0 (λ e. other (omega (arith, e)))
          ∙ sym (window-get ws s j few)
          ∙ sym (get_or-set_other (take 256 (drop s ws)) k j w 0 other)
          )
    ]

-- a page stays where words are added behind
window-append : (ws vs : List ℕ) (t : ℕ) → t + 256 ≤ length ws → take 256 (drop t (ws ++ vs)) ≡ take 256 (drop t ws)
window-append ws vs t h = grind (arith, common_steps, same-window, get_or_append_left)

-- a page is its words and whether it is made
abbrev page : List ℕ → Bool → PageWords
page words made = record { words = words; made = made }

same-page : (a b : List ℕ) (x y : Bool) → a ≡ b → x ≡ y → page a x ≡ page b y
same-page a b x y words made = rw (words, made) refl

-- where a page begins
start-of : (ws starts : List ℕ) (i : ℕ) → ArePages ws starts → i < 256 → IsStart ws (get_or starts i 0)
start-of ws starts i inv h = inv.each i 0 (omega (arith, inv.count))

-- there are 256 pages
pub pages-count : (ws starts : List ℕ) → ArePages ws starts → length (pages_at ws starts) ≡ 256
pages-count ws starts inv = length-map starts (page_at ws) ∙ inv.count

-- a page by its index
page-is : (ws starts : List ℕ) (i : ℕ) → ArePages ws starts → i < 256 → get_or (pages_at ws starts) i absent_page ≡ page_at ws (get_or starts i 0)
page-is ws starts i inv h = get_or-map (page_at ws) starts i 0 absent_page (omega (arith, inv.count))

-- each has 256 words
pub pages-whole : (ws starts : List ℕ) → ArePages ws starts → AreWhole (pages_at ws starts)
pages-whole ws starts inv = search (rules, pages-count, page-is, window-length, start-of)

-- a word that is read
pub page-word : (ws starts : List ℕ) (i k : ℕ) → ArePages ws starts → i < 256 → k < 256 → get_or ws (get_or starts i 0 + k) 0 ≡ get_or ((get_or (pages_at ws starts) i absent_page).words) k 0
page-word ws starts i k inv h below = sym (ap (λ p. get_or p.words k 0) (page-is ws starts i inv h) ∙ window-get ws (get_or starts i 0) k below)

-- it stands among the words
pub word-inside : (ws starts : List ℕ) (i k : ℕ) → ArePages ws starts → i < 256 → k < 256 → get_or starts i 0 + k < length ws
word-inside ws starts i k inv h below = omega (arith, (start-of ws starts i inv h).inside)

-- a page is made where it doesn't begin with the zeros
pub page-made : (ws starts : List ℕ) (i : ℕ) → ArePages ws starts → i < 256 → (get_or (pages_at ws starts) i absent_page).made ≡ nat_lt 0 (get_or starts i 0)
page-made ws starts i inv h = ap (λ p. p.made) (page-is ws starts i inv h)

-- a page that isn't made has zeros
pub page-blank : (ws starts : List ℕ) (i : ℕ) → ArePages ws starts → i < 256 → (get_or (pages_at ws starts) i absent_page).made ≡ false → (get_or (pages_at ws starts) i absent_page).words ≡ zeros 256
page-blank ws starts i inv h none = search (rules, page-made, nat_tests, page-is)

-- a page that isn't the one that is written has none of its words
apart-words : (ws starts : List ℕ) (i j k m : ℕ) → ArePages ws starts → i < 256 → j < 256 → k < 256 → m < 256 → 0 < get_or starts i 0 → (j ≡ i → ⊥) → (get_or starts j 0 + m) ≢ (get_or starts i 0 + k)
apart-words ws starts i j k m inv hi hj hk hm some other e = search rules

-- the pages after a word of one that is made is written
pub pages-written : (ws starts : List ℕ) (i k w : ℕ) → ArePages ws starts → i < 256 → k < 256 → 0 < get_or starts i 0
    → pages_at (set ws (get_or starts i 0 + k) w) starts ≡ set (pages_at ws starts) i (page_written (get_or (pages_at ws starts) i absent_page) k w)
pages-written ws starts i k w inv h below some =
    ext_get_or absent_page (pages_at (set ws (get_or starts i 0 + k) w) starts) (set (pages_at ws starts) i new)
    (length-map starts (page_at (set ws (get_or starts i 0 + k) w)) ∙ sym (length-set (pages_at ws starts) i new ∙ length-map starts (page_at ws)))
    (λ j inside.
    let few : j < 256 = omega (arith, inside, length-map starts (page_at (set ws (get_or starts i 0 + k) w)), inv.count) in
    get_or-map (page_at (set ws (get_or starts i 0 + k) w)) starts j 0 absent_page (omega (arith, inv.count, few)) ∙ at j few)
  where
    new : PageWords
    new = page_written (get_or (pages_at ws starts) i absent_page) k w

    begin : IsStart ws (get_or starts i 0)
    begin = start-of ws starts i inv h

    here : page_at (set ws (get_or starts i 0 + k) w) (get_or starts i 0) ≡ new
    here =
        same-page (take 256 (drop (get_or starts i 0) (set ws (get_or starts i 0 + k) w))) new.words (nat_lt 0 (get_or starts i 0)) true
        (window-set ws (get_or starts i 0) k w begin.inside below ∙ ap (λ p. set p.words k w) (sym (page-is ws starts i inv h)))
        (grind (arith, nat_tests))

    at : (j : ℕ) → j < 256 → page_at (set ws (get_or starts i 0 + k) w) (get_or starts j 0) ≡ get_or (set (pages_at ws starts) i new) j absent_page
    at j few = elim (cases_eq j i) [
      | inl same ↦ (
          ap (λ n. page_at (set ws (get_or starts i 0 + k) w) (get_or starts n 0)) same ∙ here
          ∙ sym (ap (λ n. get_or (set (pages_at ws starts) i new) n absent_page) same ∙ get_or-set_same (pages_at ws starts) i new absent_page (omega (arith, pages-count ws starts inv, h)))
          )
      | inr other ↦ (
          ap (λ ms. page ms (nat_lt 0 (get_or starts j 0)))
          (window-other ws (get_or starts j 0) (get_or starts i 0 + k) w (start-of ws starts j inv few).inside (λ m hm. apart-words ws starts i j k m inv h few below hm some other))
          ∙ sym (get_or-set_other (pages_at ws starts) i j new absent_page other ∙ page-is ws starts j inv few)
          )
    ]

-- a word that is written stays in its page, and so pages stay pages
pub still-pages : (ws starts : List ℕ) (i k w : ℕ) → ArePages ws starts → i < 256 → k < 256 → 0 < get_or starts i 0 → ArePages (set ws (get_or starts i 0 + k) w) starts
still-pages ws starts i k w inv h below some =
    let begin = start-of ws starts i inv h in
    let far : 256 ≤ get_or starts i 0 = omega (arith, begin.aligned, some) in
    let first = start-of ws starts i inv h in
    let len = length-set ws (get_or starts i 0 + k) w in
    record {
      kept = inv.kept;
      whole = len ∙ inv.whole;
      count = inv.count;
      blank = window-other ws 0 (get_or starts i 0 + k) w (omega (arith, first.inside)) (λ m hm e. omega (arith, e, far, hm)) ∙ inv.blank;
      each = λ j d inside.
          let s = inv.each j d inside in
          record { number = s.number; aligned = s.aligned; inside = omega (arith, s.inside, len) };
      apart = inv.apart;
    }

-- the pages after one is made
pub pages-made : (ws starts : List ℕ) (i : ℕ) → ArePages ws starts → i < 256
    → pages_at (ws ++ zeros 256) (set starts i (length ws)) ≡ set (pages_at ws starts) i (record { words = zeros 256; made = true })
pages-made ws starts i inv h =
    map-set (page_at (ws ++ zeros 256)) starts i (length ws)
    ∙ ap (λ ps. set ps i (page_at (ws ++ zeros 256) (length ws))) kept
    ∙ ap (set (pages_at ws starts) i) made
  where
    kept : pages_at (ws ++ zeros 256) starts ≡ pages_at ws starts
    kept =
        ext_get_or absent_page (pages_at (ws ++ zeros 256) starts) (pages_at ws starts) (length-map starts (page_at (ws ++ zeros 256)) ∙ sym (length-map starts (page_at ws)))
        (λ j inside.
        let few : j < 256 = omega (arith, inside, length-map starts (page_at (ws ++ zeros 256)), inv.count) in
        get_or-map (page_at (ws ++ zeros 256)) starts j 0 absent_page (omega (arith, inv.count, few))
        ∙ ap (λ ms. page ms (nat_lt 0 (get_or starts j 0))) (window-append ws (zeros 256) (get_or starts j 0) (start-of ws starts j inv few).inside)
        ∙ sym (page-is ws starts j inv few))

    made : page_at (ws ++ zeros 256) (length ws) ≡ record { words = zeros 256; made = true }
    made =
        same-page (take 256 (drop (length ws) (ws ++ zeros 256))) (zeros 256) (nat_lt 0 (length ws)) true
        (same-window (ws ++ zeros 256) (zeros 256) (length ws) 0 (omega (arith, length-append ws (zeros 256), length-zeros 256)) (omega (arith, length-zeros 256))
        (λ k below. get_or-append-add ws (zeros 256) k 0 ∙ ap (λ n. get_or (zeros 256) n 0) (omega arith))
        ∙ take_all 256 (zeros 256) (omega (arith, length-zeros 256)))
        (let first = start-of ws starts i inv h in let some : 0 < length ws = omega (arith, first.inside) in grind (arith, nat_tests))

-- pages stay pages where one is made
pub more-pages : (ws starts : List ℕ) (i : ℕ) → ArePages ws starts → i < 256 → ArePages (ws ++ zeros 256) (set starts i (length ws))
more-pages ws starts i inv h =
    let first = start-of ws starts i inv h in
    let len : length (ws ++ zeros 256) ≡ length ws + 256 = omega (arith, length-append ws (zeros 256), length-zeros 256) in
    record {
      kept = inv.kept + 1;
      whole = omega (arith, len, inv.whole);
      count = length-set starts i (length ws) ∙ inv.count;
      blank = window-append ws (zeros 256) 0 (omega (arith, first.inside)) ∙ inv.blank;
      each = All-set (IsStart (ws ++ zeros 256)) starts i (length ws) (record { number = inv.kept; aligned = inv.whole; inside = omega (arith, len) }) (λ j d inside.
          let s = inv.each j d inside in
          record { number = s.number; aligned = s.aligned; inside = omega (arith, s.inside, len) });
      apart = apart;
    }
  where
    read : (j : ℕ) → j < 256 → (get_or (set starts i (length ws)) j 0 ≡ length ws × j ≡ i) ⊎ (get_or (set starts i (length ws)) j 0 ≡ get_or starts j 0 × get_or starts j 0 + 256 ≤ length ws)
    read j few = elim (cases_eq j i) [
      | inl same ↦ inl (ap (λ n. get_or (set starts i (length ws)) n 0) same ∙ get_or-set_same starts i (length ws) 0 (omega (arith, inv.count, h)), same)
      | inr other ↦ inr (get_or-set_other starts i j (length ws) 0 other, (start-of ws starts j inv few).inside)
    ]

    apart : (a b : ℕ) → a < 256 → b < 256 → 0 < get_or (set starts i (length ws)) a 0 → get_or (set starts i (length ws)) a 0 ≡ get_or (set starts i (length ws)) b 0 → a ≡ b
    apart a b ha hb some e = elim (read a ha) [
      | inl x ↦ elim (read b hb) [
        | inl y ↦ x.1 ∙ sym y.1
        | inr y ↦ absurd (omega (arith, e, x.0, y.0, y.1))
      ]
      | inr x ↦ elim (read b hb) [
        | inl y ↦ absurd (omega (arith, e, x.0, y.0, x.1))
        | inr y ↦ inv.apart a b ha hb (omega (arith, some, x.0)) (sym x.0 ∙ e ∙ y.0)
      ]
    ]

map-same : {X Y : Type 0} (f : X → Y) (n : ℕ) (x : X) → map f (replicate n x) ≡ replicate n (f x)
map-same f zero x = refl
map-same f (suc n) x = ap (λ ys. f x ∷ ys) (map-same f n x)

pub zeros-is : (n : ℕ) → zeros n ≡ replicate n 0
unfolding zeros
zeros-is n = refl

-- the words of the first page
pub blank-is : (xs ws : List ℕ) (n : ℕ) → xs ≡ [] → n ≡ 0 → ws ≡ take 256 xs ++ replicate (256 - n) 0 → ws ≡ zeros 256
unfolding zeros
blank-is xs ws n none empty is = is ∙ rw (none, empty) refl

-- where no page is made
pub pages-absent : (ws starts : List ℕ) → ws ≡ zeros 256 → starts ≡ replicate 256 0 → pages_at ws starts ≡ replicate 256 absent_page
unfolding absent_page
pages-absent ws starts blank none =
    let first : take 256 (drop 0 ws) ≡ zeros 256 = take_all 256 ws (omega (arith, ap length blank, length-zeros 256)) ∙ blank in
    ap (λ ss. map (page_at ws) ss) none ∙ map-same (page_at ws) 256 0 ∙ ap (λ ms. replicate 256 (page ms false)) first

pub absent-pages : (ws starts : List ℕ) → ws ≡ zeros 256 → starts ≡ replicate 256 0 → ArePages ws starts
absent-pages ws starts blank none =
    let len : length ws ≡ 256 = ap length blank ∙ length-zeros 256 in
    let at : (i : ℕ) → i < 256 → get_or starts i 0 ≡ 0 = λ i h. ap (λ ss. get_or ss i 0) none ∙ get_or-replicate 256 i 0 0 h in
    let count : length starts ≡ 256 = ap length none ∙ length-replicate {A = ℕ} 256 0 in
    record {
      kept = 1;
      whole = omega (arith, len);
      count = count;
      blank = take_all 256 ws (omega (arith, len)) ∙ blank;
      each = All-same (IsStart ws) starts (replicate 256 0) none (All-replicate (IsStart ws) 256 0 (record { number = 0; aligned = omega arith; inside = omega (arith, len) }));
      apart = λ i j hi hj some same. absurd (omega (arith, some, at i hi));
    }

-- the second of two values for an element stays
set-twice : {X : Type 0} (xs : List X) (i : ℕ) (a b : X) → set (set xs i a) i b ≡ set xs i b
set-twice [] i a b = refl
set-twice (x ∷ xs) zero a b = refl
set-twice (x ∷ xs) (suc i) a b = ap (λ ys. x ∷ ys) (set-twice xs i a b)

-- a page that was made and then written is the page with that word
pub made-then-written : (ps mid new : List PageWords) (i k w : ℕ) → i < length ps → mid ≡ set ps i (page_made (get_or ps i absent_page)) → new ≡ set mid i (page_written (get_or mid i absent_page) k w)
    → new ≡ set ps i (page_written (get_or ps i absent_page) k w)
made-then-written ps mid new i k w h made written = search (rules, get_or-set_same, set-twice)

-- a page that was made is made
pub made-is : (ps mid : List PageWords) (i : ℕ) → i < length ps → mid ≡ set ps i (page_made (get_or ps i absent_page)) → (get_or mid i absent_page).made ≡ true
made-is ps mid i h made = ap (λ qs. (get_or qs i absent_page).made) made ∙ ap (λ p. p.made) (get_or-set_same ps i (page_made (get_or ps i absent_page)) absent_page h)
