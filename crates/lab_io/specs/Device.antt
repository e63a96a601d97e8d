-- What a contract sees of a device that keeps whether it failed, and of bytes written in part.
use Rattle.std.specs.Prelude.{◌≡◌, ℕ, List, Bool, refl, Option, ◌++◌}
use Rattle.std.specs.Coded.{Coded, code_by, coded×, coded_bool}
use Rattle.std.specs.Io.KnownBytes.{Appends}

-- a reader or a writer, and whether a call on it ever answered `Failed`
pub record Device (D : Type 0) : Type 0 where
  pub device : D
  pub failed : Bool

module _ {D : Type 0} where
  -- a device is stored as the pair of its fields
  abbrev pub device_code : Coded D → Coded (Device D)
  device_code device =
      code_by (D × Bool) (coded× device coded_bool) (λ d. (d.device, d.failed)) (λ p. record { device = p.0; failed = p.1 }) (λ _. refl)

-- known bytes grow by a beginning of bs, the bytes sent
pub record AppendsPrefix (old new : Option (List ℕ)) (bs : List ℕ) : Type 0 where
  pub sent : List ℕ
  pub unsent : List ℕ
  pub whole : bs ≡ sent ++ unsent
  pub appended : Appends old new sent
