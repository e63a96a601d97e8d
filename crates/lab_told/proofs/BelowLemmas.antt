-- Tests of the numbers below a bound.
use Rattle.std.proofs.Common.{◌≡◌, ℕ, ◌+◌, ◌||◌, Bool, false, refl, add-one}
use Rattle.lab_told.specs.Openers.{any_below}

-- at first there is none
pub any_below_none : (test : ℕ → Bool) → any_below 0 test ≡ false
unfolding any_below
any_below_none test = refl

-- one number more
pub any_below_more : (i : ℕ) (test : ℕ → Bool) → any_below (i + 1) test ≡ (any_below i test || test i)
unfolding any_below
any_below_more i test = rw add-one refl
