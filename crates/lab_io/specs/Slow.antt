-- The state of the slow devices for tests.
use Rattle.std.specs.Prelude.{ℕ, List}

-- a slow reader: the bytes still to come, how many a call moves at most, and how many all calls move before they fail
pub record SlowReader : Type 0 where
  pub bytes : List ℕ
  pub per_call : ℕ
  pub before_failure : ℕ

-- a slow writer: the bytes written, the rest of its slice, the most that a call moves, and that all calls move until they fail
pub record SlowWriter : Type 0 where
  pub written : List ℕ
  pub rest : List ℕ
  pub per_call : ℕ
  pub before_failure : ℕ
