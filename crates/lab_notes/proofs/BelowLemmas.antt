-- The first number below a bound for which a test holds, and the processes below it that wait.
use Rattle.std.proofs.Common.{◌≡◌, ℕ, ◌+◌, Bool, None, [], slice_get, refl, add-one}
use Rattle.lab_sched.specs.Worlds.{WorldState}
use Rattle.lab_told.specs.Tallies.{TallyState}
use Rattle.lab_notes.specs.Objects.{first_below, or_this}
use Rattle.lab_notes.specs.Waiting.{wait_of, waits_below, with_wait}

-- at first there is none
pub first_below_none : (test : ℕ → Bool) → first_below 0 test ≡ None
unfolding first_below
first_below_none test = refl

-- one number more
pub first_below_more : (i : ℕ) (test : ℕ → Bool) → first_below (i + 1) test ≡ or_this i (test i) (first_below i test)
unfolding first_below
first_below_more i test = rw add-one refl

-- of no process
pub waits_below_none : (w : WorldState) (t : TallyState) → waits_below w t 0 ≡ []
unfolding waits_below
waits_below_none w t = refl

-- one process more
pub waits_below_more : (w : WorldState) (t : TallyState) (i : ℕ) → waits_below w t (i + 1) ≡ with_wait (wait_of w t i (slice_get w.processes i)) (waits_below w t i)
unfolding waits_below
waits_below_more w t i = rw add-one refl
