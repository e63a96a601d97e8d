-- What the lines of a text are to execution.
use Rattle.std.specs.Prelude.{ℕ, ℤ, pos, suc, Bool, true, false, not, ◌&&◌, ◌||◌, Option, Some, None, is_some, List, [], ◌∷◌, if◌then◌else◌}
use Rattle.std.specs.Ordering.{int_eq}
use Rattle.lc3_table.specs.declared.operation.Operation.{Operation}
use Rattle.lc3_table.specs.declared.operation.Operation.TheVariants as op
use Rattle.lc3_table.specs.Statements.{Line, Operates, Operand, Number, is_between, option_or}
use Rattle.lc3_warnings.specs.declared.flow.Flow.{Flow}
use Rattle.lc3_warnings.specs.declared.flow.Flow.TheVariants.{Data, GoesOn, Stops}
use Rattle.lc3_warnings.specs.declared.flow.Next.{Next}

-- whether a call of the kernel has this vector: x40 to x46 and x50 to x56
abbrev pub is_call : ℤ → Bool
is_call z = is_between (pos 0x40) (pos 0x46) z || is_between (pos 0x50) (pos 0x56) z

-- whether a trap has this vector: a console trap, x20 to x25, or a call of the kernel
abbrev pub is_known_trap : ℤ → Bool
is_known_trap z = is_between (pos 0x20) (pos 0x25) z || is_call z

-- HALT by its vector, and a trap that isn't known, end the process
abbrev pub trap_flow : ℤ → Flow
trap_flow z = if is_known_trap z && not (int_eq z (pos 0x25)) then GoesOn else Stops

-- a TRAP with these operands
abbrev pub trap_flow_of : List Operand → Flow
trap_flow_of (Number z ∷ xs) = trap_flow z
trap_flow_of xs = GoesOn

-- what an operation with these operands is to execution: `.ORIG` and `.END` have no words, the other directives are
-- data, and execution goes on behind each instruction but HALT, RET, JMP, RTI, BR, BRnzp, and the traps that end a process
abbrev pub operation_flow : Operation → List Operand → Option Flow
operation_flow op.Origin xs = None
operation_flow op.End xs = None
operation_flow op.Fill xs = Some Data
operation_flow op.Block xs = Some Data
operation_flow op.Text xs = Some Data
operation_flow op.Halt xs = Some Stops
operation_flow op.Return xs = Some Stops
operation_flow op.Jump xs = Some Stops
operation_flow op.ReturnInterrupt xs = Some Stops
operation_flow (op.Branch true true true) xs = Some Stops
operation_flow op.Trap xs = Some (trap_flow_of xs)
operation_flow o xs = Some GoesOn

-- what a line is to execution, if it has words
abbrev pub flow_of : Line Operand → Option Flow
flow_of (Operates l o xs) = operation_flow o xs
flow_of _ = None

-- the first of these lines with words
abbrev pub first_with_words : List (Line Operand) → Option (Line Operand)
first_with_words [] = None
first_with_words (l ∷ ls) = if is_some (flow_of l) then Some l else first_with_words ls

-- whether a line writes the string at the address in R0: PUTS or PUTSP
abbrev pub prints_string : Line Operand → Bool
prints_string (Operates l op.Puts xs) = true
prints_string (Operates l op.Putsp xs) = true
prints_string (Operates l op.Trap (Number z ∷ xs)) = int_eq z (pos 0x22) || int_eq z (pos 0x24)
prints_string _ = false

-- the last line with words among these
abbrev pub last_flow : List (Line Operand) → Option Flow
last_flow [] = None
last_flow (l ∷ ls) = option_or (last_flow ls) (flow_of l)

-- a line behind n others which is this to execution, if it has words
abbrev pub next_at : ℕ → Line Operand → Option Flow → Option Next
next_at n l None = None
next_at n l (Some f) = Some (record { line = suc n; flow = f; prints = prints_string l })

-- the first line with words among these, which stand behind n others
abbrev pub next_from : ℕ → List (Line Operand) → Option Next
next_from n [] = None
next_from n (l ∷ ls) = option_or (next_at n l (flow_of l)) (next_from (suc n) ls)
