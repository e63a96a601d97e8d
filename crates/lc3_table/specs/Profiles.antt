-- The profiles of the machine. A is the machine of Patt and Patel, Introduction to Computing Systems, 2nd edition,
-- appendix A: LEA sets the condition codes, and a TRAP puts the incremented PC into R7. B is this project's own: LEA
-- leaves the codes as they were, and a TRAP leaves R7 so, HALT included. All else is the same in both.
use Rattle.std.specs.Prelude.{ℕ, List, codes}
use Rattle.lc3_table.specs.declared.profile.Profile.{Profile}
use Rattle.lc3_table.specs.declared.profile.Profile.TheVariants.{A, B}

-- the letter that names a profile
abbrev pub profile_letter : Profile → List ℕ
profile_letter A = codes "a"
profile_letter B = codes "b"
