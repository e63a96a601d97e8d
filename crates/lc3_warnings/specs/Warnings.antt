-- The warnings of a text.
use Rattle.std.specs.Prelude.{ℕ, ◌+◌, Bool, true, false, not, Option, Some, None, List, [], ◌∷◌, ◌++◌, length, drop, reverse, if◌then◌else◌}
use Rattle.std.specs.List.{flat_map}
use Rattle.lc3_table.specs.Tokens.{Token, tokens}
use Rattle.lc3_table.specs.declared.profile.Profile.{Profile}
use Rattle.lc3_table.specs.Statements.{Line, Operand}
use Rattle.lc3_asm.specs.Texts.{lines}
use Rattle.lc3_asm.specs.Faults.{Reading, reading, faults, has_faults}
use Rattle.lc3_warnings.specs.Numbers.{wraps, unknown_trap, decimal_origin}
use Rattle.lc3_warnings.specs.Around.{around, starts_in_data, runs_into_data, runs_past_end, falls_into}
use Rattle.lc3_warnings.specs.Labels.{named, called, mentioned, other_meaning, unused_label}
use Rattle.lc3_warnings.specs.Returns.{lost_return}
use Rattle.lc3_warnings.specs.Codes.{stale_codes}
use Rattle.lc3_warnings.specs.Strings.{strings, loaded_string}
use Rattle.lc3_warnings.specs.declared.walk.Around.{Around}
use Rattle.lc3_warnings.specs.declared.texts.Kind.{Kind}
use Rattle.lc3_warnings.specs.declared.texts.Kind.TheVariants as kind
use Rattle.lc3_warnings.specs.declared.texts.Warning.{Warning}

-- a warning of line n, if there is one
abbrev pub told : ℕ → Option Kind → List Warning
told n None = []
told n (Some k) = record { line = n; kind = k } ∷ []

-- a warning that is told of accepted texts alone
abbrev pub if_accepted : Bool → Option Kind → Option Kind
if_accepted true k = k
if_accepted false k = None

-- what the warnings of a line rest on beside the lines around it: the machine, whether the text is accepted, the labels
-- that its lines name, those that its JSRs name, those of its strings, and those that are words of its faulty lines
pub record Setting : Type 0 where
  pub profile : Profile
  pub accepted : Bool
  pub named : List ℕ → Bool
  pub called : List ℕ → Bool
  pub strings : List ℕ → Bool
  pub mentioned : List ℕ → Bool

-- the warnings of a line with these bytes which stands so below these lines, the nearest first: one of each kind or none
abbrev pub line_kinds : Setting → List ℕ → Line Operand → Around → List (Line Operand) → List (Option Kind)
line_kinds s bytes l a above =
    wraps bytes l
    ∷ unknown_trap l
    ∷ decimal_origin bytes l
    ∷ other_meaning s.named s.mentioned bytes l
    ∷ if_accepted s.accepted (unused_label s.named bytes l a)
    ∷ if_accepted s.accepted (starts_in_data a)
    ∷ if_accepted s.accepted (runs_into_data a)
    ∷ if_accepted s.accepted (runs_past_end a)
    ∷ if_accepted s.accepted (falls_into s.called l a)
    ∷ if_accepted s.accepted (lost_return s.profile s.called l above)
    ∷ if_accepted s.accepted (stale_codes s.named l above)
    ∷ if_accepted s.accepted (loaded_string s.strings l a above)
    ∷ []

-- the warnings of these lines, which have these bytes and stand behind those before them
abbrev pub lines_told : Setting → List (Line Operand) → List (List ℕ) → List (Line Operand) → List Warning
lines_told s before (bytes ∷ texts) (l ∷ ls) =
    flat_map (told (length before + 1)) (line_kinds s bytes l (around before l ls) (reverse before))
    ++ lines_told s (before ++ l ∷ []) texts ls
lines_told s before _ _ = []

-- whether a line has a token
abbrev pub has_token : List Token → Bool
has_token [] = false
has_token (t ∷ ts) = true

-- the number of the first line with a token among these, which stand behind n others
abbrev pub first_with_token : ℕ → List (List ℕ) → Option ℕ
first_with_token n [] = None
first_with_token n (bytes ∷ rest) = if has_token (tokens bytes) then Some (n + 1) else first_with_token (n + 1) rest

-- the warning of a line behind the `.END` in line n, where there is one with a token
abbrev pub behind_end : ℕ → Option ℕ → List Warning
behind_end n None = []
behind_end n (Some line) = told line (Some (kind.AfterEnd n))

-- The first line with a token behind `.END`, which is in line n.
abbrev pub after_end : ℕ → List (List ℕ) → List Warning
after_end n rest = behind_end n (first_with_token n rest)

-- whether a text has no fault
abbrev pub is_accepted : List ℕ → Bool
is_accepted text = not (has_faults (faults text))

-- the setting of a text with these lines that is read so, on this machine
abbrev pub setting_of : Profile → Bool → List (List ℕ) → Reading → Setting
setting_of p accepted texts r =
    record { profile = p; accepted = accepted; named = named r.read; called = called r.read; strings = strings r.read; mentioned = mentioned texts r.found }

-- the warnings of a text that is read so: those of the lines up to `.END`, and then that of the lines behind it
abbrev pub warnings_of : Profile → Bool → List (List ℕ) → Reading → List Warning
warnings_of p accepted texts r =
    lines_told (setting_of p accepted texts r) [] texts r.read ++ after_end (length r.read) (drop (length r.read) texts)

-- The warnings of a text, for this machine, by line.
abbrev pub warnings : Profile → List ℕ → List Warning
warnings p text = warnings_of p (is_accepted text) (lines text) (reading text)
