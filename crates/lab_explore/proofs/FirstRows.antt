-- The row that is found first, and those before it.
use Rattle.std.proofs.Common.{ℕ, ◌≡◌, ◌+◌, ◌*◌, ◌/◌, ◌%◌, ◌<◌, ◌≤◌, min, Result, Ok, Err, IfOk, inl, inr, arith, List, length, get_or, take, All, Contains, slice_index_or, subst, sym, ap, ◌∙◌}
use Rattle.std.specs.Prelude.{IsOkAnd}
use Rattle.std.proofs.lemmas.List.{get_or_default}
use Rattle.lab_conditions.proofs.ListLemmas.{all_more, all_whole}
use Rattle.std.specs.Fork.{IsChunk}
use Rattle.std.proofs.Math.Nat.{add-mul, one-mul, div-lt_iff_lt-mul}
use Rattle.std.proofs.lemmas.Bool.{cases_lt}
use Rattle.std.proofs.lemmas.Nat.{div-add-mod', mod_below}
use Rattle.lab_conditions.specs.declared.condition.Condition.{Condition}
use Rattle.lab_search.specs.declared.store.Store.{Store}
use Rattle.lab_explore.specs.Private.Judged.{RowHolds, FailsBefore, IsFirst}

-- the chunks have room for all elements
have_room : (size count len : ℕ) → 0 < size → count ≡ len / size + min 1 (len % size) → len ≤ count * size
have_room size count len some cut =
    let q = len / size in
    let r = len % size in
    let whole : q * size + r ≡ len = div-add-mod' len size in
    let below : r < size = mod_below len size some in
    elim (cases_lt 0 r) [
      | inl more ↦ let is : count ≡ q + 1 = omega (arith, cut, more) in let room = ap (λ n. n * size) is ∙ add-mul q 1 size in omega (arith, room, one-mul size, whole, below)
      | inr none ↦ let is : count ≡ q = omega (arith, cut, none) in let room = ap (λ n. n * size) is in omega (arith, room, whole, none)
    ]

-- some rows whose first was found, and one more
pub first_more : (t : Store) (c : Condition) (end : ℕ) (rows : List ℕ) (n first next : ℕ) → n < length rows → next ≤ first → (next < end → RowHolds t c next) → FailsBefore t c next (get_or rows n 0)
    → IsFirst t c end (take n rows) first → IsFirst t c end (take (n + 1) rows) next
first_more t c end rows n first next within before holds here h =
    let inside = h.within in
    record {
      within = omega (arith, before, inside);
      holds = holds;
      before = all_more (FailsBefore t c next) rows n within (λ k d below less. h.before k d below (omega (arith, less, before))) (λ d. subst (FailsBefore t c next) (get_or_default rows n 0 d within) here);
    }

-- a row among those before the first
pub fails_among : (t : Store) (c : Condition) (end : ℕ) (rows same : List ℕ) (first i : ℕ) → rows ≡ same → IsFirst t c end rows first → Contains same i → FailsBefore t c first i
fails_among t c end rows same first i is h there = subst (FailsBefore t c first) there.2 (subst (All (FailsBefore t c first)) is h.before there.0 i there.1)

-- what is found of the chunks of some rows
module _ {E : Type 0} (t : Store) (c : Condition) (end : ℕ) (rows : List ℕ) (size : ℕ) (parts : List (Result ℕ E)) where
  -- the first of the rows of chunk n was found in it
  abbrev pub AreJudged : Type 0
  AreJudged = (n : ℕ) (d : Result ℕ E) → n < length parts → (ys : List ℕ) × IsChunk rows size (n * size) ys × IfOk (get_or parts n d) (IsFirst t c end ys)

  -- the least of what was found of some chunks
  pub record IsLeast (some : List (Result ℕ E)) (first : ℕ) : Type 0 where
    pub within : first ≤ end
    pub holds : first < end → RowHolds t c first
    pub least : All (λ part. IsOkAnd part (λ found. first ≤ found)) some

  least_on : (first next : ℕ) (r : Result ℕ E) → next ≤ first → IsOkAnd r (λ found. first ≤ found) → IsOkAnd r (λ found. next ≤ found)
  least_on first next (Ok found) less h = omega (arith, less, h)
  least_on first next (Err e) less h = h

  -- and of one more
  pub least_more : (n first found next : ℕ) → AreJudged → n < length parts → ((d : Result ℕ E) → Ok found ≡ get_or parts n d) → next ≡ min first found → IsLeast (take n parts) first → IsLeast (take (n + 1) parts) next
  least_more n first found next judged within is least h =
      let inside = h.within in
      let chunk = judged n (Ok found) within in
      let told : IsFirst t c end chunk.0 found = subst (λ r. IfOk r (IsFirst t c end chunk.0)) (sym (is (Ok found))) chunk.2 in
      record {
        within = omega (arith, least, inside);
        holds = λ below. elim (cases_lt found first) [
          | inl less ↦ let same : found ≡ next = omega (arith, less, least) in subst (RowHolds t c) same (told.holds (omega (arith, below, same)))
          | inr more ↦ let same : first ≡ next = omega (arith, more, least) in subst (RowHolds t c) same (h.holds (omega (arith, below, same)))
        ];
        least = all_more (λ part. IsOkAnd part (λ f. next ≤ f)) parts n within (λ k d below. least_on first next (get_or (take n parts) k d) (omega (arith, least)) (h.least k d below))
            (λ d. subst (λ part. IsOkAnd part (λ f. next ≤ f)) (is d) (omega (arith, least)));
      }

  in_chunk : (first : ℕ) (ys : List ℕ) (r : Result ℕ E) → IfOk r (IsFirst t c end ys) → IsOkAnd r (λ found. first ≤ found) → (k d : ℕ) → k < length ys → FailsBefore t c first (get_or ys k d)
  in_chunk first ys (Ok found) is least k d within less = is.before k d within (omega (arith, less, least))
  in_chunk first ys (Err e) is least k d within less = absurd least

  -- the least of what was found of the chunks is the first of the rows
  pub first_of_chunks : (n first : ℕ) → 0 < size → length parts ≡ length rows / size + min 1 (length rows % size) → AreJudged → length parts ≤ n → IsLeast (take n parts) first → IsFirst t c end rows first
  first_of_chunks n first some cut judged past h = record {
    within = h.within;
    holds = h.holds;
    before = λ k d below.
        let room = have_room size (length parts) (length rows) some cut in
        let m = k / size in
        let offset = k % size in
        let there : m < length parts = (div-lt_iff_lt-mul some).1 (omega (arith, below, room)) in
        let inside : offset < size = mod_below k size some in
        let place : m * size + offset ≡ k = div-add-mod' k size in
        let chunk = judged m (Ok 0) there in
        let here : offset < length chunk.0 = omega (arith, chunk.1.len, inside, place, below) in
        let least = all_whole (λ part. IsOkAnd part (λ found. first ≤ found)) parts n past h.least in
        subst (FailsBefore t c first) (chunk.1.elements offset d here ∙ ap (λ i. slice_index_or rows i d) place) (in_chunk first chunk.0 (get_or parts m (Ok 0)) chunk.2 (least m (Ok 0) there) offset d here);
  }
