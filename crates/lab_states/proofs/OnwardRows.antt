-- Rows that are in order by their own numbers.
use Rattle.std.proofs.Common.{ℕ, ◌≡◌, ◌+◌, ◌<◌, List, Some, All, ap, ◌∙◌, arith, slice_get}
use Rattle.std.specs.List.{range_with_len}
use Rattle.std.proofs.lemmas.List.Elements.{All-weaker}
use Rattle.std.proofs.lemmas.List.FromFn.{length-range_with_len, get_or-range_with_len}
use Rattle.std.proofs.lemmas.Option.{slice_get-get_or}
use Rattle.lab_states.specs.declared.edges.Edge.{Edge}
use Rattle.lab_states.specs.Rising.{IsRising, AreRising}
use Rattle.lab_states.specs.Private.Rising.{IsOnward}

number_read : (n i : ℕ) → i < n → slice_get (range_with_len 0 n) i ≡ Some i
number_read n i below =
    let count = length-range_with_len 0 n in
    let same : 0 + i ≡ i = omega arith in
    slice_get-get_or (range_with_len 0 n) i 0 (omega (arith, count, below)) ∙ ap (λ k. Some k) (get_or-range_with_len 0 n i 0 below ∙ same)

onward_rises : (n : ℕ) (e : Edge) → IsOnward n e → IsRising (range_with_len 0 n) e
onward_rises n e h = record {
  before = e.from;
  after = e.to;
  from = number_read n e.from (omega (arith, h.less, h.within));
  to = number_read n e.to h.within;
  less = h.less;
  within = let all = length-range_with_len 0 n in omega (arith, all, h.within);
}

-- where each edge leads to a row after its own, the numbers of the rows rise
pub onward_rising : (n : ℕ) (es : List Edge) → All (IsOnward n) es → AreRising es
onward_rising n es h = (range_with_len 0 n, All-weaker (IsOnward n) (IsRising (range_with_len 0 n)) (λ e onward. onward_rises n e onward) es h)
