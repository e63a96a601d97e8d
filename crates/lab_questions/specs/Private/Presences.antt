-- Objects that are looked for in the worlds of a search.
use Rattle.std.specs.Prelude.{ℕ, ◌≡◌, ◌⊎◌, All, AllPairs, Contains, List, [], ◌∷◌, ◌++◌, Option, Some, None, slice_get}
use Rattle.lab_sched.specs.declared.schedule.Block.{Block}
use Rattle.lab_conditions.specs.declared.never.Never.{Never}
use Rattle.lab_conditions.specs.declared.never.Never.TheVariants.{Holds, Lost, Refused}
use Rattle.lab_questions.specs.declared.bases.Basis.{Basis}
use Rattle.lab_questions.specs.Bases.{presence, StandsBefore}

-- the condition holds of a world exactly where the basis is there
abbrev pub AsksFor : Basis → Never → Type 0
AsksFor o (Holds c) = c.parts.items ≡ presence o ∷ []
AsksFor o Lost = ⊥
AsksFor o (Refused r) = ⊥

-- the bases are those that stand at the front of names, in the order in which the names first do
pub record AreNamed (names front bases : List Basis) : Type 0 where
  pub all : All (Contains bases) front
  pub only : All (Contains front) bases
  pub order : AllPairs (StandsBefore names) bases

-- an basis is added at the end of bases, unless it is one of them
abbrev pub AddsNew : List Basis → Basis → List Basis → Type 0
AddsNew olds o news = (Contains olds o × (news ≡ olds)) ⊎ ((Contains olds o → ⊥) × (news ≡ olds ++ o ∷ []))

-- those of the bases for which there is no schedule
abbrev pub unseen : List Basis → List (Option (List Block)) → List Basis
unseen [] seen = []
unseen (o ∷ os) [] = []
unseen (o ∷ os) (None ∷ seen) = o ∷ unseen os seen
unseen (o ∷ os) (Some s ∷ seen) = unseen os seen

-- the basis has a place among the bases, and there no schedule is
abbrev pub IsUnseen : List Basis → List (Option (List Block)) → Basis → Type 0
IsUnseen bases seen o = (i : ℕ) × (slice_get bases i ≡ Some o) × (slice_get seen i ≡ Some None)
