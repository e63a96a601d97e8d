use Rattle.std.proofs.Common.{◌≡◌, ◌+◌, [], ◌∷◌}
use Rattle.std.specs.Prelude.{slice_index}
use Rattle.lab_sched.specs.Held.{process_view}
use Rattle.lab_sched.specs.Worlds.{machine_of}
use Rattle.lab_moments.specs.Values.{all_below}
use Rattle.lab_moments.proofs.state.words_from.Given as goal

-- the words so far are added
abbrev pub invariant-loop-i : goal.invariant-loop-i
invariant-loop-i l = l.words.items ≡ all_below l.i (λ i. slice_index (machine_of (process_view l.process)).memory (l.first + i) ∷ [])
