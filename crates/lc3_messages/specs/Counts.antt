-- Which warnings about a text are told, and how many faults are found.
use Rattle.std.specs.Prelude.{ℕ, Bool, true, false, not, List, filter, bytes_eq}
use Rattle.std.specs.List.{count_by, list_any}
use Rattle.lc3_table.specs.declared.profile.Profile.{Profile}
use Rattle.lc3_warnings.specs.declared.texts.Warning.{Warning}
use Rattle.lc3_warnings.specs.Texts.{warning_name}
use Rattle.lc3_warnings.specs.Warnings.{warnings}
use Rattle.lc3_messages.specs.declared.source.Finding.{Finding}
use Rattle.lc3_messages.specs.declared.source.What.{What}
use Rattle.lc3_messages.specs.declared.source.What.TheVariants.{Fault, Warning as Warned}

-- whether a name is one of these
abbrev pub is_among : List (List ℕ) → List ℕ → Bool
is_among names name = list_any (bytes_eq name) names

-- warnings, but for those of these names
abbrev pub without : List (List ℕ) → List Warning → List Warning
without names found = filter (λ w. not (is_among names (warning_name w.kind))) found

-- the warnings about a text on this machine, but for those of some names
abbrev pub told_warnings : Profile → List (List ℕ) → List ℕ → List Warning
told_warnings profile names text = without names (warnings profile text)

-- whether the source is refused for it
abbrev pub is_error : What → Bool
is_error (Fault k) = true
is_error (Warned w) = false

-- how many faults are found
abbrev pub error_count : List Finding → ℕ
error_count found = count_by (λ f. is_error f.what) found
