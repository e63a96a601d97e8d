-- Returns of subroutines that have lost the address in R7.
use Rattle.std.specs.Prelude.{ℕ, ◌+◌, Bool, true, false, ◌||◌, ◌==◌, Option, Some, None, List, [], ◌∷◌, length, if◌then◌else◌}
use Rattle.std.specs.List.{list_any}
use Rattle.lc3_table.specs.declared.operation.Operation.{Operation}
use Rattle.lc3_table.specs.declared.operation.Operation.TheVariants as op
use Rattle.lc3_table.specs.declared.profile.Profile.{Profile}
use Rattle.lc3_table.specs.declared.profile.Profile.TheVariants as machine
use Rattle.lc3_table.specs.Statements.{Line, Operates, Operand, Register}
use Rattle.lc3_warnings.specs.Flows.{flow_of}
use Rattle.lc3_warnings.specs.Labels.{defines_one}
use Rattle.lc3_warnings.specs.declared.flow.Flow.{Flow}
use Rattle.lc3_warnings.specs.declared.flow.Flow.TheVariants.{Data, Stops}
use Rattle.lc3_warnings.specs.declared.texts.Kind.{Kind}
use Rattle.lc3_warnings.specs.declared.texts.Kind.TheVariants as kind

-- whether an operand is R7
abbrev pub is_r7 : Operand → Bool
is_r7 (Register r) = r == 7
is_r7 x = false

-- whether a line has the operand R7
abbrev pub has_r7 : Line Operand → Bool
has_r7 (Operates l o xs) = list_any is_r7 xs
has_r7 _ = false

-- whether an operation puts the address behind it into R7; a TRAP does so in profile a alone
abbrev pub writes_r7 : Profile → Operation → Bool
writes_r7 p op.JumpSubroutine = true
writes_r7 p op.JumpSubroutineRegister = true
writes_r7 machine.A op.Trap = true
writes_r7 machine.A op.Getc = true
writes_r7 machine.A op.Out = true
writes_r7 machine.A op.Puts = true
writes_r7 machine.A op.In = true
writes_r7 machine.A op.Putsp = true
writes_r7 p o = false

-- whether a line does
abbrev pub line_writes_r7 : Profile → Line Operand → Bool
line_writes_r7 p (Operates l o xs) = writes_r7 p o
line_writes_r7 p _ = false

-- whether execution never goes on behind such a line
abbrev pub is_stop : Option Flow → Bool
is_stop (Some Data) = true
is_stop (Some Stops) = true
is_stop f = false

-- whether no subroutine goes on behind a line: data, or an instruction that doesn't go on, but no branch
abbrev pub ends_subroutine : Line Operand → Bool
ends_subroutine (Operates l (op.Branch n z p) xs) = false
ends_subroutine l = is_stop (flow_of l)

-- the lines of a subroutine above one of its lines, nearest first and by their numbers; `entries` are the labels with
-- which subroutines begin
abbrev pub body : (List ℕ → Bool) → Line Operand → List (Line Operand) → List (ℕ × Line Operand)
body entries l [] = []
body entries l (m ∷ above) =
    if defines_one entries l || ends_subroutine m then [] else (length above + 1, m) ∷ body entries m above

-- the number of the first of these lines that writes R7
abbrev pub first_writer : Profile → List (ℕ × Line Operand) → Option ℕ
first_writer p [] = None
first_writer p (e ∷ es) = if line_writes_r7 p e.1 then Some e.0 else first_writer p es

-- the number of the line of a body after which R7 isn't the address to go back to; none where a line has the operand R7
abbrev pub lost_in : Profile → List (ℕ × Line Operand) → Option ℕ
lost_in p es = if list_any (λ e. has_r7 e.1) es then None else first_writer p es

-- whether a line is RET or JMP R7
abbrev pub is_return : Line Operand → Bool
is_return (Operates l op.Return xs) = true
is_return (Operates l op.Jump xs) = list_any is_r7 xs
is_return _ = false

-- the warning that the line of this number has written R7
abbrev pub lost_at : Option ℕ → Option Kind
lost_at None = None
lost_at (Some n) = Some (kind.LostReturn n)

-- A return stands behind a line that has written R7, in a subroutine without the operand R7.
abbrev pub lost_return : Profile → (List ℕ → Bool) → Line Operand → List (Line Operand) → Option Kind
lost_return p entries l above = if is_return l then lost_at (lost_in p (body entries l above)) else None
