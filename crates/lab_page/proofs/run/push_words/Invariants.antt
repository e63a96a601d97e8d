use Rattle.std.proofs.Common.{◌≡◌, ◌+◌, ◌++◌}
use Rattle.std.specs.Prelude.{slice_index}
use Rattle.lab_moments.specs.Values.{all_below}
use Rattle.lab_page.specs.Stores.{changed}
use Rattle.lab_page.proofs.run.push_words.Given as goal

-- the changed words so far are added
abbrev pub invariant-loop-at : goal.invariant-loop-at
invariant-loop-at l =
    l.stores.items ≡ l.fn.stores.items
    ++ all_below l.at (λ i. changed (record { step = l.taken.number; process = l.taken.pid; address = l.first + i; word = slice_index l.after i }) (slice_index l.before i))
