use Rattle.std.proofs.Common.{◌≡◌, ◌≤◌, option_map, drop, length}
use Rattle.lab_sources.specs.Labels.{highest_up_to}
use Rattle.lab_sources.proofs.source.highest_up_to.Given as goal

-- of the labels from here on it is the one that is looked for
abbrev pub invariant-loop-left : goal.invariant-loop-left
invariant-loop-left l = record {
  label : option_map (λ e. (e.0.now, e.1)) l.highest ≡ highest_up_to l.address (drop l.left l.symbols);
  within : l.left ≤ length l.symbols;
}

abbrev pub decreases-loop-left : goal.decreases-loop-left
decreases-loop-left l = l.left
