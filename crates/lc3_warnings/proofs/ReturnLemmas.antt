-- What is found on the way up to where a subroutine begins.
use Rattle.std.specs.Prelude.{ℕ, List, Option, None, if◌then◌else◌}
use Rattle.std.specs.List.{list_any}
use Rattle.lc3_table.specs.declared.profile.Profile.{Profile}
use Rattle.lc3_table.specs.Statements.{Line, Operand, option_or}
use Rattle.lc3_warnings.specs.Returns.{has_r7, first_writer}

-- what is found in lines below which this one was found
abbrev pub lost_with : Profile → Option ℕ → List (ℕ × Line Operand) → Option ℕ
lost_with p found es = if list_any (λ e. has_r7 e.1) es then None else option_or found (first_writer p es)
