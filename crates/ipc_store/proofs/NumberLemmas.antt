-- Lists of the numbers of things that are kept.
use Rattle.std.proofs.Common.{◌≡◌, ℕ, ◌<◌, List, [], ◌∷◌, Some, map, slice_get, unwrap_or, length, refl, ap, sym, ◌∙◌, zero, suc, ◌+◌, ◌++◌, take, get_or, set, ◌⊎◌, inl, inr}
use Rattle.std.specs.Option.{option_map}
use Rattle.std.proofs.lemmas.List.{map_more, map-append}
use Rattle.std.proofs.lemmas.Option.{slice_get-map, slice_get-get_or}

-- what is kept stays where it is while more is kept
pub there_still : {X : Type 0} (ps qs : List X) (ns : List ℕ) (xs : List X) → ((i : ℕ) (x : X) → slice_get ps i ≡ Some x → slice_get qs i ≡ Some x)
    → map (slice_get ps) ns ≡ map Some xs → map (slice_get qs) ns ≡ map Some xs
there_still ps qs [] xs grows e = e
there_still ps qs (n ∷ ns) [] grows e = cc
there_still ps qs (n ∷ ns) (x ∷ xs) grows e =
    let head : slice_get ps n ≡ Some x = cc in
    let tail : map (slice_get ps) ns ≡ map Some xs = cc in
    rw (grows n x head, there_still ps qs ns xs grows tail) refl

-- the things that have these numbers
pub numbered : {X : Type 0} (ps : List X) (ns : List ℕ) (xs : List X) (d : X)
    → map (slice_get ps) ns ≡ map Some xs → map (λ n. unwrap_or (slice_get ps n) d) ns ≡ xs
numbered ps [] [] d e = refl
numbered ps [] (x ∷ xs) d e = cc
numbered ps (n ∷ ns) [] d e = cc
numbered ps (n ∷ ns) (x ∷ xs) d e =
    let head : slice_get ps n ≡ Some x = cc in
    let tail : map (slice_get ps) ns ≡ map Some xs = cc in
    rw (head, numbered ps ns xs d tail) refl

-- each number is that of something kept
pub numbers_there : {X : Type 0} (ps : List X) (ns : List ℕ) (xs : List X) → map (slice_get ps) ns ≡ map Some xs
    → (i n : ℕ) → slice_get ns i ≡ Some n → (x : X) × (slice_get ps n ≡ Some x)
numbers_there ps [] xs e i n at_i = cc
numbers_there ps (m ∷ ns) [] e i n at_i = cc
numbers_there ps (m ∷ ns) (x ∷ xs) e zero n at_i =
    let head : slice_get ps m ≡ Some x = cc in
    let same : m ≡ n = cc in
    (x, rw (← same) head)
numbers_there ps (m ∷ ns) (x ∷ xs) e (suc i) n at_i =
    let tail : map (slice_get ps) ns ≡ map Some xs = cc in
    numbers_there ps ns xs tail i n at_i

-- what stands in a list that was mapped
pub mapped : {X Y : Type 0} (f : X → Y) (xs : List X) (i : ℕ) (y : Y) → slice_get (map f xs) i ≡ Some y → (x : X) × (slice_get xs i ≡ Some x) × (f x ≡ y)
mapped f [] i y e = cc
mapped f (x ∷ xs) zero y e = (x, refl, cc)
mapped f (x ∷ xs) (suc i) y e = mapped f xs i y e

pub map_at : {X Y : Type 0} (f : X → Y) (xs : List X) (i : ℕ) (x : X) → slice_get xs i ≡ Some x → slice_get (map f xs) i ≡ Some (f x)
map_at f xs i x e = slice_get-map f xs i ∙ ap (option_map f) e

-- two functions that give the same of each number
pub map_within : {Y : Type 0} (f g : ℕ → Y) (ns : List ℕ) → ((i n : ℕ) → slice_get ns i ≡ Some n → f n ≡ g n) → map f ns ≡ map g ns
map_within f g [] same = refl
map_within f g (n ∷ ns) same = rw (same zero n refl, map_within f g ns (λ i. same (suc i))) refl

-- a number in a list in which one was written
pub written : (ns : List ℕ) (i m j n : ℕ) → slice_get (set ns i m) j ≡ Some n → (n ≡ m) ⊎ (slice_get ns j ≡ Some n)
written [] i m j n e = inr e
written (x ∷ ns) zero m zero n e = inl (cc)
written (x ∷ ns) zero m (suc j) n e = inr e
written (x ∷ ns) (suc i) m zero n e = inr e
written (x ∷ ns) (suc i) m (suc j) n e = written ns i m j n e

-- one thing more is copied
pub copied_more : {X : Type 0} (ps : List X) (ns : List ℕ) (i d : ℕ) (xs : List X) (x : X) → i < length ns → map (slice_get ps) (take i ns) ≡ map Some xs
    → slice_get ps (get_or ns i d) ≡ Some x → map (slice_get ps) (take (i + 1) ns) ≡ map Some (xs ++ x ∷ [])
copied_more ps ns i d xs x h so_far is = simp (map_more (slice_get ps) ns i d h, map-append, so_far, is)

-- one thing more is kept
pub kept_more : {X : Type 0} (ps qs : List X) (ns : List ℕ) (xs : List X) (i n : ℕ) (d : X) → ((k : ℕ) (y : X) → slice_get ps k ≡ Some y → slice_get qs k ≡ Some y)
    → i < length xs → map (slice_get ps) ns ≡ map Some (take i xs) → slice_get qs n ≡ Some (get_or xs i d)
    → map (slice_get qs) (ns ++ n ∷ []) ≡ map Some (take (i + 1) xs)
kept_more ps qs ns xs i n d grows h so_far kept = simp (map-append, map_more Some xs i d h, there_still ps qs ns (take i xs) grows so_far, kept)

-- what was kept at first is the same after more was kept
same_still : {X : Type 0} (ps qs : List X) (n : ℕ) (d : X) → ((k : ℕ) (y : X) → slice_get ps k ≡ Some y → slice_get qs k ≡ Some y)
    → n < length ps → unwrap_or (slice_get qs n) d ≡ unwrap_or (slice_get ps n) d
same_still ps qs n d grows h = let there = slice_get-get_or ps n d h in ap (λ o. unwrap_or o d) (grows n (get_or ps n d) there ∙ sym there)

-- one thing more is kept that f makes of a thing that was kept at first
pub made_more : {X : Type 0} (f : X → X) (ps qs rs : List X) (ns ms : List ℕ) (i n d : ℕ) (e : X)
    → ((k : ℕ) (y : X) → slice_get ps k ≡ Some y → slice_get qs k ≡ Some y) → ((k : ℕ) (y : X) → slice_get qs k ≡ Some y → slice_get rs k ≡ Some y)
    → i < length ns → get_or ns i d < length ps → map (slice_get qs) ms ≡ map Some (map f (map (λ m. unwrap_or (slice_get ps m) e) (take i ns)))
    → slice_get rs n ≡ Some (f (unwrap_or (slice_get qs (get_or ns i d)) e))
    → map (slice_get rs) (ms ++ n ∷ []) ≡ map Some (map f (map (λ m. unwrap_or (slice_get ps m) e) (take (i + 1) ns)))
made_more f ps qs rs ns ms i n d e first later h there so_far made =
    simp (
      map-append,
      map_more (λ m. unwrap_or (slice_get ps m) e) ns i d h,
      there_still qs rs ms (map f (map (λ m. unwrap_or (slice_get ps m) e) (take i ns))) later so_far,
      made,
      same_still ps qs (get_or ns i d) e first there,
    )
