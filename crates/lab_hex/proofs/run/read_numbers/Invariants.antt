use Rattle.std.proofs.Common.{◌≡◌, ℕ, ◌<◌, get_or, take, map, [], false}
use Rattle.std.specs.List.{filter_map}
use Rattle.lab_hex.specs.Hex.{is_bad, number_of}
use Rattle.lab_hex.proofs.run.read_numbers.Given as goal

-- no word so far is bad, and the numbers are theirs
abbrev pub invariant-loop-i : goal.invariant-loop-i
invariant-loop-i l = record {
  good : (k : ℕ) → k < l.i → is_bad (get_or (map (λ word. word.now) l.words) k []) ≡ false;
  read : l.numbers.items ≡ filter_map number_of (take l.i (map (λ word. word.now) l.words));
}
