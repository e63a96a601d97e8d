-- Edges as lists of numbers.
use Rattle.std.proofs.Common.{ℕ, zero, suc, ◌≡◌, ◌+◌, ◌<◌, ◌≤◌, List, [], ◌∷◌, ◌++◌, Some, refl, sym, ap, ◌∙◌, arith, length, slice_get, cond, ltb, replicate, below_more}
use Rattle.std.proofs.lemmas.Bool.Decides.{nat_tests}
use Rattle.std.proofs.lemmas.Option.{slice_get_past}
use Rattle.lab_states.specs.declared.edges.Edge.{Edge}
use Rattle.lab_states.specs.Edges.{from_of, edges_of}
use Rattle.lab_states.specs.Private.Edges.{AreBetween, ArePast}

pub ends_behind : (k e n : ℕ) → k < e → cond (ltb k e) 0 n ≡ 0
ends_behind k e n h = grind (arith, nat_tests)

pub ends_before : (k e n : ℕ) → e ≤ k → cond (ltb k e) 0 n ≡ n
ends_before k e n h = grind (arith, nat_tests)

-- the row is the one before which all edges end, and whose edges don't
pub from_is : (es : List ℕ) (k r : ℕ) → ArePast es r k → r ≤ length es → ((e : ℕ) → slice_get es r ≡ Some e → k < e) → from_of es k ≡ r
from_is [] k r past within here = omega (arith, within)
from_is (e ∷ es) k zero past within here = ends_behind k e _ (here e refl)
from_is (e ∷ es) k (suc r) past within here =
    ends_before k e _ (past 0 e (omega arith) refl)
    ∙ ap suc (from_is es k r (λ i x below is. past (suc i) x (omega (arith, below)) is) (omega (arith, within)) here)

-- ends behind a place change nothing of the row that it is in
from_none : (k e n : ℕ) → k < e → from_of (replicate n e) k ≡ 0
from_none k e zero h = refl
from_none k e (suc n) h = ends_behind k e _ h

pub from_more : (es : List ℕ) (k e n : ℕ) → k < e → from_of (es ++ replicate n e) k ≡ from_of es k
from_more [] k e n h = from_none k e n h
from_more (x ∷ es) k e n h = ap (λ m. cond (ltb k x) 0 (suc m)) (from_more es k e n h)

pub edges_same : (es fs : List ℕ) (k : ℕ) (ts ps : List ℕ) → ((i : ℕ) → i < k + length ts → from_of es i ≡ from_of fs i) → edges_of es k ts ps ≡ edges_of fs k ts ps
edges_same es fs k [] ps h = refl
edges_same es fs k (t ∷ ts) [] h = refl
edges_same es fs k (t ∷ ts) (p ∷ ps) h =
    let first = h k (omega arith) in
    ap (λ n. record { from = n; to = t; pid = p } ∷ edges_of es (suc k) ts ps) first
    ∙ ap (λ xs. record { from = from_of fs k; to = t; pid = p } ∷ xs) (edges_same es fs (suc k) ts ps (λ i below. h i (omega (arith, below))))

pub edges_ended : (es : List ℕ) (n : ℕ) (ts ps : List ℕ) → edges_of (es ++ replicate n (length ts)) 0 ts ps ≡ edges_of es 0 ts ps
edges_ended es n ts ps = edges_same (es ++ replicate n (length ts)) es 0 ts ps (λ i below. from_more es i (length ts) n (omega (arith, below)))

pub edges_count : (es : List ℕ) (k : ℕ) (ts ps : List ℕ) → length ps ≡ length ts → length (edges_of es k ts ps) ≡ length ts
edges_count es k [] ps same = refl
edges_count es k (t ∷ ts) [] same = absurd (omega (arith, same))
edges_count es k (t ∷ ts) (p ∷ ps) same = ap suc (edges_count es (suc k) ts ps (omega (arith, same)))

pub edge_read : (es : List ℕ) (k : ℕ) (ts ps : List ℕ) (i t p : ℕ) → slice_get ts i ≡ Some t → slice_get ps i ≡ Some p
    → slice_get (edges_of es k ts ps) i ≡ Some (record { from = from_of es (k + i); to = t; pid = p })
edge_read es k [] ps i t p to by = absurd (cc)
edge_read es k (x ∷ ts) [] i t p to by = absurd (cc)
edge_read es k (x ∷ ts) (y ∷ ps) zero t p to by =
    let a : x ≡ t = cc in
    let b : y ≡ p = cc in
    let at : k ≡ k + zero = omega arith in
    ap (λ n. Some (record { from = from_of es n; to = x; pid = y })) at ∙ ap (λ n. Some (record { from = from_of es (k + zero); to = n; pid = y })) a
    ∙ ap (λ n. Some (record { from = from_of es (k + zero); to = t; pid = n })) b
edge_read es k (x ∷ ts) (y ∷ ps) (suc i) t p to by =
    let at : suc k + i ≡ k + suc i = omega arith in
    edge_read es (suc k) ts ps i t p to by ∙ ap (λ n. Some (record { from = from_of es n; to = t; pid = p })) at

edges_pushed : (es : List ℕ) (k : ℕ) (ts ps : List ℕ) (t p : ℕ) → length ps ≡ length ts
    → edges_of es k (ts ++ t ∷ []) (ps ++ p ∷ []) ≡ edges_of es k ts ps ++ record { from = from_of es (k + length ts); to = t; pid = p } ∷ []
edges_pushed es k [] [] t p same =
    let at : k ≡ k + length {A = ℕ} [] = omega arith in
    ap (λ n. record { from = from_of es n; to = t; pid = p } ∷ []) at
edges_pushed es k [] (y ∷ ps) t p same = absurd (omega (arith, same))
edges_pushed es k (x ∷ ts) [] t p same = absurd (omega (arith, same))
edges_pushed es k (x ∷ ts) (y ∷ ps) t p same =
    let at : suc k + length ts ≡ k + length (x ∷ ts) = omega arith in
    ap (λ xs. record { from = from_of es k; to = x; pid = y } ∷ xs)
    (edges_pushed es (suc k) ts ps t p (omega (arith, same)) ∙ ap (λ n. edges_of es (suc k) ts ps ++ record { from = from_of es n; to = t; pid = p } ∷ []) at)

pub between_low : (low : ℕ) (ns : List ℕ) (high i n : ℕ) → AreBetween low ns high → slice_get ns i ≡ Some n → low ≤ n
between_low low [] high i n h is = absurd (cc)
between_low low (m ∷ ns) high zero n h is = let same : m ≡ n = cc in omega (arith, h.0)
between_low low (m ∷ ns) high (suc i) n h is = let rest = between_low m ns high i n h.1 is in omega (arith, h.0)

pub between_up : (low : ℕ) (ns : List ℕ) (high : ℕ) → AreBetween low ns high → low ≤ high
between_up low [] high h = h
between_up low (m ∷ ns) high h = let rest = between_up m ns high h.1 in omega (arith, h.0)

pub between_high : (low : ℕ) (ns : List ℕ) (high i n : ℕ) → AreBetween low ns high → slice_get ns i ≡ Some n → n ≤ high
between_high low [] high i n h is = absurd (cc)
between_high low (m ∷ ns) high zero n h is = let same : m ≡ n = cc in let up = between_up m ns high h.1 in omega arith
between_high low (m ∷ ns) high (suc i) n h is = between_high m ns high i n h.1 is

pub between_ordered : (low : ℕ) (ns : List ℕ) (high i j m n : ℕ) → AreBetween low ns high → i ≤ j → slice_get ns i ≡ Some m → slice_get ns j ≡ Some n → m ≤ n
between_ordered low [] high i j m n h below a b = absurd (cc)
between_ordered low (x ∷ ns) high zero zero m n h below a b = let same : m ≡ n = cc in omega arith
between_ordered low (x ∷ ns) high zero (suc j) m n h below a b = let same : x ≡ m = cc in let up = between_low x ns high j n h.1 b in omega arith
between_ordered low (x ∷ ns) high (suc i) zero m n h below a b = absurd (omega (arith, below))
between_ordered low (x ∷ ns) high (suc i) (suc j) m n h below a b = between_ordered x ns high i j m n h.1 (omega (arith, below)) a b

pub between_wider : (low : ℕ) (ns : List ℕ) (high more : ℕ) → AreBetween low ns high → high ≤ more → AreBetween low ns more
between_wider low [] high more h up = omega (arith, h)
between_wider low (n ∷ ns) high more h up = (h.0, between_wider n ns high more h.1 up)

between_same : (low high n : ℕ) → low ≤ high → AreBetween low (replicate n high) high
between_same low high zero h = h
between_same low high (suc n) h = (h, between_same high high n (omega arith))

pub between_more : (low : ℕ) (ns : List ℕ) (high n : ℕ) → AreBetween low ns high → AreBetween low (ns ++ replicate n high) high
between_more low [] high n h = between_same low high n h
between_more low (m ∷ ns) high n h = (h.0, between_more m ns high n h.1)

-- where the edges from the row before one end at a place or before it, those from all rows before do
pub all_past : (ends : List ℕ) (high row at e : ℕ) → AreBetween 0 ends high → slice_get ends row ≡ Some e → e ≤ at → ArePast ends (row + 1) at
all_past ends high row at e h is below i n within has =
    let up = between_ordered 0 ends high i row n e h (omega (arith, within)) has is in omega arith

-- the row after all whose edges have ended
pub from_last : (ends : List ℕ) (high : ℕ) → AreBetween 0 ends high → from_of ends high ≡ length ends
from_last ends high h =
    from_is ends high (length ends) (λ i e below is. between_high 0 ends high i e h is) (omega arith) (λ e is. absurd (cc (slice_get_past ends (length ends) (omega arith))))

-- one edge more, behind all others
pub edge_pushed : (ends ts ps : List ℕ) (e : Edge) → length ps ≡ length ts → AreBetween 0 ends (length ts) → e.from ≡ length ends
    → edges_of ends 0 (ts ++ e.to ∷ []) (ps ++ e.pid ∷ []) ≡ edges_of ends 0 ts ps ++ e ∷ []
edge_pushed ends ts ps e same between from =
    let at : 0 + length ts ≡ length ts = omega arith in
    edges_pushed ends 0 ts ps e.to e.pid same
    ∙ ap (λ n. edges_of ends 0 ts ps ++ record { from = from_of ends n; to = e.to; pid = e.pid } ∷ []) at
    ∙ ap (λ n. edges_of ends 0 ts ps ++ record { from = n; to = e.to; pid = e.pid } ∷ []) (from_last ends (length ts) between ∙ sym from)

pub past_more : (ends : List ℕ) (row at : ℕ) → ArePast ends row at → ((e : ℕ) → slice_get ends row ≡ Some e → e ≤ at) → ArePast ends (row + 1) at
past_more ends row at h here i e below is = below_more (λ k. (e : ℕ) → slice_get ends k ≡ Some e → e ≤ at) row (λ k within e. h k e within) here i below e is
